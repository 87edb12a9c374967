-- `pairs::pair_at` meets its contract: each field that is passed takes its pairs off the number, until the field has the pair.
-- Assumes nothing.
use Prim.Native.Nat.{◌-◌}
use lib.ListN.{length}
use Rattle.pairs.proofs.Finding.{Seeking}
use Rattle.pairs.proofs.pair_at.Given as goal

abbrev pub invariant-loop-left : goal.invariant-loop-left
invariant-loop-left l = Seeking l.job l.number l.at l.left

abbrev pub decreases-loop-left : goal.decreases-loop-left
decreases-loop-left l = length l.job - l.at
