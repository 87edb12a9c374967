-- `behind` meets its contract.
-- Assumes nothing.
use native.Mathlib.Omega.{arith}
use mathlib.Core.Path.{sym, ◌∙◌}
use Rattle.all_index.proofs.Placing.{behind-head, behind-next}
use Rattle.all_index.proofs.behind.Goals as goal

pub bucket-requires : goal.bucket-requires
bucket-requires c = (c.requires.0, c.requires.1)

pub returns-then-q-eq0 : goal.returns-then-q-eq0
returns-then-q-eq0 c = c.bucket.ensures ∙ sym (behind-head _ _ _ c.if-q-eq0.true)

pub overflow_sub-q : goal.overflow_sub-q
overflow_sub-q c = omega arith

pub link-requires : goal.link-requires
link-requires c = (c.requires.0, omega (arith, c.requires.2))

pub returns : goal.returns
returns c = c.link.ensures ∙ sym (behind-next _ _ _ c.if-q-eq0.false)
