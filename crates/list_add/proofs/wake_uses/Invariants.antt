-- `wake_uses` meets its contract: each turn wakes one more, and links fall. Assumes nothing.
use Rattle.list_add.proofs.Wakes.{Waking}
use Rattle.list_add.proofs.wake_uses.Given as goal

abbrev pub invariant-loop-p : goal.invariant-loop-p
invariant-loop-p l = Waking l.second l.initial.work l.work l.initial.p l.p l.last l.made

abbrev pub decreases-loop-p : goal.decreases-loop-p
decreases-loop-p l = l.p
