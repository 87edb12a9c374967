-- `reason_follow::put_waiting` meets its contract: the two numbers tell from which of its tags the join is crossed. Assumes nothing.
use borrow.Author.Tests.{eqb-false, eqb-true}
use mathlib.Core.Path.{sym, ◌∙◌}
use native.Mathlib.Omega.{arith}
use Rattle.reason_follow.proofs.Crossing.{holds-ranged}
use Rattle.reason_follow.proofs.Ways.{put-over, put_back}
use Rattle.reason_follow.proofs.put_waiting.Goals as goal

pub ends-requires : goal.ends-requires
ends-requires c = c.requires.holds

pub put_next-requires : goal.put_next-requires
put_next-requires c = (c.requires.holds.past.loaded.long, omega (arith, c.requires.place), omega (arith, (holds-ranged c.requires.holds).age))

pub overflow_add-b : goal.overflow_add-b
overflow_add-b c = omega (arith, (holds-ranged c.requires.holds).age)

pub put_next-requires-else-eq : goal.put_next-requires-else-eq
put_next-requires-else-eq c = (c.requires.holds.past.loaded.long, omega (arith, c.requires.place), omega (arith, (holds-ranged c.requires.holds).age))

pub returns-then-eq : goal.returns-then-eq
returns-then-eq c = put-over c.requires c.ends.ensures (eqb-true _ _ (sym c.eq.ensures ∙ c.if-eq.true)) c.put_next.ensures

pub returns-else-eq : goal.returns-else-eq
returns-else-eq c = put_back c.requires c.ends.ensures (eqb-false _ _ (sym c.eq.ensures ∙ c.if-eq.false)) c.put_next-else-eq.ensures
