use Rattle.script_shelf.proofs.Searching.{Climbing}
use Rattle.script_shelf.proofs.seek.Given as goal

abbrev pub invariant-loop-link : goal.invariant-loop-link
invariant-loop-link g l = Climbing l.work l.links l.n l.head (λ k r. goal.F-post g l.passes k r) l.link

abbrev pub decreases-loop-link : goal.decreases-loop-link
decreases-loop-link g l = l.link
