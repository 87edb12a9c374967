-- `reason_follow::pass` meets its contract: each step weighs less than what was left. Assumes nothing.
use Rattle.reason_follow.specs.Ways.{OnWay, weight}
use Rattle.reason_follow.proofs.pass.Given as goal

abbrev pub invariant-loop-t : goal.invariant-loop-t
invariant-loop-t l = OnWay l.initial.work l.work l.limit l.initial.p.at.0 l.t.0 l.p.at.0 l.p.to.0 l.p.below l.p.waiting

abbrev pub decreases-loop-t : goal.decreases-loop-t
decreases-loop-t l = weight l.work l.p.below l.p.waiting
