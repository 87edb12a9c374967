-- `call_look::longest_of` meets its contract: the first byte tells the edition.
-- Assumes nothing.
use mathlib.Core.Path.{sym, ◌∙◌}
use Rattle.call_look.proofs.longest_of.Goals as goal

pub returns-then-sheeted : goal.returns-then-sheeted
returns-then-sheeted c = rw (sym c.sheeted.ensures ∙ c.if-sheeted.true)

pub returns-else-sheeted : goal.returns-else-sheeted
returns-else-sheeted c = rw (sym c.sheeted.ensures ∙ c.if-sheeted.false)
