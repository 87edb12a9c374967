-- `moment::leader` meets its contract: climbing a link older than the age keeps the leader, and where there is none the tag leads.
-- Assumes nothing.
use mathlib.Core.Path.{◌≡◌}
use Prim.Native.Nat.{◌<◌}
use Rattle.meaning.specs.Limits.{most_tags}
use Rattle.moment.specs.Meeting.{leader_at}
use Rattle.moment.proofs.leader.Given as goal

abbrev pub invariant-loop-y : goal.invariant-loop-y
invariant-loop-y l = (l.y.0 < most_tags) × (leader_at l.work l.age l.y.0 ≡ leader_at l.work l.age l.initial.y.0)

abbrev pub decreases-loop-y : goal.decreases-loop-y
decreases-loop-y l = l.y.0
