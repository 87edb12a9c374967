-- `moment::climb_abreast` meets its contract: a link on both sides is one of each depth. The measure is the tag of one side, since links lead
-- down. Assumes nothing.
use Rattle.moment.proofs.Steps.{Comparing}
use Rattle.moment.proofs.climb_abreast.Given as goal

abbrev pub invariant-loop-x : goal.invariant-loop-x
invariant-loop-x l = Comparing l.work l.top l.initial.x.0 l.initial.y.0 l.x.0 l.y.0

abbrev pub decreases-loop-x : goal.decreases-loop-x
decreases-loop-x l = l.x.0
