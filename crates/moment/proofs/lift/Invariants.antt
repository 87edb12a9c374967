-- `moment::lift` meets its contract: a link of the one that has them left is a link of the one that is lifted. The measure is the tag of the
-- first, since links lead down. Assumes nothing.
use Rattle.moment.proofs.Steps.{RaisingAll}
use Rattle.moment.proofs.lift.Given as goal

abbrev pub invariant-loop-newest : goal.invariant-loop-newest
invariant-loop-newest l = RaisingAll l.work l.top l.initial.x.0 l.initial.y.0 l.y.0 l.x.0 l.newest

abbrev pub decreases-loop-newest : goal.decreases-loop-newest
decreases-loop-newest l = l.y.0
