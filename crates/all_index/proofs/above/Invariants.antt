-- `above` meets its contract. What was gone by is above j; links fall, so p is the measure.
-- Assumes nothing.
use Rattle.all_index.proofs.Placing.{Seen}
use Rattle.all_index.proofs.above.Given as goal

abbrev pub invariant-loop-p : goal.invariant-loop-p
invariant-loop-p l = Seen l.work l.b l.j l.q l.p

abbrev pub decreases-loop-p : goal.decreases-loop-p
decreases-loop-p l = l.p
