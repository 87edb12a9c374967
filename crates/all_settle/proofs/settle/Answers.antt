-- `settle` meets its contract. What is left to do falls with each that is met.
-- Assumes nothing.
use mathlib.Core.Path.{◌≡◌}
use native.Mathlib.Omega.{arith}
use Rattle.table.proofs.Frame.{within-refl, within-trans}
use Rattle.all_settle.proofs.Passing.{open-first, settle-less}
use Rattle.all_settle.proofs.settle.Goals as goal

pub loop-to-smaller : goal.loop-to-smaller
loop-to-smaller c = settle-less c.meet-p.ensures
