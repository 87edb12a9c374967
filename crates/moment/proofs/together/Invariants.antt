-- `moment::together` meets its contract: a link on both sides keeps the two at one depth. The measure is the tag of one side, since links
-- lead down. Assumes nothing.
use Rattle.moment.proofs.Steps.{Pairing}
use Rattle.moment.proofs.together.Given as goal

abbrev pub invariant-loop-x : goal.invariant-loop-x
invariant-loop-x l = Pairing l.work l.top l.initial.x.0 l.initial.y.0 l.initial.newest l.x.0 l.y.0 l.newest

abbrev pub decreases-loop-x : goal.decreases-loop-x
decreases-loop-x l = l.x.0
