-- `sheets_walk::file_listed` meets its contract: each turn passes one field, and files its sheet if the record is the next of the list.
-- Assumes nothing.
use Prim.Native.Nat.{◌-◌}
use lib.ListN.{length}
use Rattle.sheets_walk.proofs.Walk.{Walking}
use Rattle.sheets_walk.proofs.file_listed.Given as goal

abbrev pub invariant-loop-i : goal.invariant-loop-i
invariant-loop-i l = Walking l.job l.initial.work l.count l.work l.at l.passed l.i

abbrev pub decreases-loop-i : goal.decreases-loop-i
decreases-loop-i l = length l.job - l.at
