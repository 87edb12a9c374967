-- `touch_uses` meets its contract: what the list came by waits, and the rest of it is to come. Lists lead down, so p is the measure.
-- Assumes nothing.
use Rattle.all_index.proofs.Sweeping.{Along}
use Rattle.all_index.proofs.touch_uses.Given as goal

abbrev pub invariant-loop-p : goal.invariant-loop-p
invariant-loop-p l = Along l.front l.second l.initial.work l.initial.p l.work l.p l.to

abbrev pub decreases-loop-p : goal.decreases-loop-p
decreases-loop-p l = l.p
