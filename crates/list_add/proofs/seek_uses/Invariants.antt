-- `seek_uses` meets its contract: links fall. Assumes nothing.
use Rattle.list_add.proofs.Seeks.{Seeking}
use Rattle.list_add.proofs.seek_uses.Given as goal

abbrev pub invariant-loop-p : goal.invariant-loop-p
invariant-loop-p l = Seeking l.second l.work l.initial.p l.p l.a.0 l.c.0

abbrev pub decreases-loop-p : goal.decreases-loop-p
decreases-loop-p l = l.p
