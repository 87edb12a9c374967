-- `pairs::first_broken` meets its contract: the numbers of all pairs before the present one are above the records.
-- Assumes nothing.
use native.Mathlib.Omega.{arith}
use mathlib.Core.Path.{refl}
use Rattle.pairs.specs.Marks.{hit, none}
use Rattle.pairs.proofs.Marking.{scan-next}
use Rattle.pairs.proofs.first_broken.Goals as goal

pub loop-i-init : goal.loop-i-init
loop-i-init c = λ j l. absurd (omega arith)

pub returns-then-since-before : goal.returns-then-since-before
returns-then-since-before c = hit {j = c.loop-i.i} refl (omega arith) (omega (arith, c.since.ensures, c.if-since-before.true)) c.loop-i.invariant

pub loop-i-preserved : goal.loop-i-preserved
loop-i-preserved c = scan-next _ c.loop-i.invariant c.since.ensures (omega (arith, c.if-since-before.false))

pub returns : goal.returns
returns c = none refl (λ j k. c.loop-i.invariant j (omega arith))
