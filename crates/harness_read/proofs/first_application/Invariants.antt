-- `harness_read::first_application` meets its contract: each turn goes on behind a field that is whole and no application.
-- Assumes nothing.
use Prim.Native.Nat.{◌-◌}
use lib.ListN.{length}
use Rattle.harness_read.proofs.Walking.{Walking}
use Rattle.harness_read.proofs.first_application.Given as goal

abbrev pub invariant-loop-at : goal.invariant-loop-at
invariant-loop-at l = Walking l.job l.at

abbrev pub decreases-loop-at : goal.decreases-loop-at
decreases-loop-at l = length l.job - l.at
