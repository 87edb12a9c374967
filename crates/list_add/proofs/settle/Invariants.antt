-- `settle` meets its contract: with each step the rank falls. Assumes nothing.
use Rattle.list_add.specs.Busy.{Busy, Went, rank}
use Rattle.list_add.proofs.settle.Given as goal

abbrev pub invariant-loop-t : goal.invariant-loop-t
invariant-loop-t l = Busy l.t.size l.t.len l.t.n l.work l.r.first l.r.last l.r.joins × Went l.initial.work l.work l.initial.r.joins l.r.joins

abbrev pub decreases-loop-t : goal.decreases-loop-t
decreases-loop-t l = rank l.work l.r.joins
