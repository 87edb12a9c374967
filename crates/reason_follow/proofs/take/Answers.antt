-- `reason_follow::take` meets its contract. Assumes nothing.
use Rattle.reason_follow.proofs.Crossing.{taken-again, taken-first}
use native.Mathlib.Omega.{arith}
use mathlib.Core.Path.{sym, ◌∙◌}
use Rattle.reason_follow.proofs.take.Goals as goal

pub mark-requires : goal.mark-requires
mark-requires c = c.requires

pub returns-then-mark-eq1 : goal.returns-then-mark-eq1
returns-then-mark-eq1 c = taken-again (sym c.mark.ensures ∙ c.if-mark-eq1.true)

pub put_taken-requires : goal.put_taken-requires
put_taken-requires c = c.requires

pub put_mark-requires : goal.put_mark-requires
put_mark-requires c = (omega (arith, c.requires.0, c.put_taken.ensures.size), c.requires.1)

pub returns : goal.returns
returns c = taken-first c.requires.0 c.requires.1 c.put_taken.ensures c.put_mark.ensures
