-- `reason_follow::put_taken` meets its contract: both stores stand behind the joins that wait. Assumes nothing.
use native.Mathlib.Omega.{arith}
use Prim.Native.Nat.{◌+◌, ◌*◌}
use Rattle.meaning.specs.Limits.{most_tags}
use Rattle.table.proofs.Frame.{within-refl}
use Rattle.reason_follow.proofs.Crossing.{ordered}
use Rattle.reason_follow.proofs.put_taken.Goals as goal

pub returns-then-c-lt-MOST_TAGS : goal.returns-then-c-lt-MOST_TAGS
returns-then-c-lt-MOST_TAGS c = ordered _ (most_tags + c.taken_count-c.result) (2 * most_tags) _ _ (omega arith) (omega (arith, c.if-c-lt-MOST_TAGS.true)) (omega arith) (omega arith) c.put_next.ensures c.put_next-then-c-lt-MOST_TAGS.ensures

pub returns-else-c-lt-MOST_TAGS : goal.returns-else-c-lt-MOST_TAGS
returns-else-c-lt-MOST_TAGS c = within-refl _
