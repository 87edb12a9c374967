-- `reason_follow::waiting` meets its contract: the number tells the age, and from which of its tags the join is crossed. Assumes nothing.
use native.Mathlib.Omega.{arith}
use Rattle.reason_follow.proofs.Ways.{read_first, read-second, read-over, read_back}
use Rattle.reason_follow.proofs.waiting.Goals as goal

pub next-v-requires : goal.next-v-requires
next-v-requires c = (c.requires.holds.past.loaded.long, c.requires.place)

pub ends-requires : goal.ends-requires
ends-requires c = read_first c.requires c.next-v.ensures (omega (arith, c.if-v-lt-MOST_TAGS.true))

pub ends-requires-else-v-lt-MOST_TAGS : goal.ends-requires-else-v-lt-MOST_TAGS
ends-requires-else-v-lt-MOST_TAGS c = read-second c.requires c.next-v.ensures (omega (arith, c.if-v-lt-MOST_TAGS.false))

pub returns-then-v-lt-MOST_TAGS : goal.returns-then-v-lt-MOST_TAGS
returns-then-v-lt-MOST_TAGS c = read-over c.next-v.ensures (omega (arith, c.if-v-lt-MOST_TAGS.true)) c.ends.ensures

pub returns-else-v-lt-MOST_TAGS : goal.returns-else-v-lt-MOST_TAGS
returns-else-v-lt-MOST_TAGS c = read_back c.requires c.next-v.ensures (omega (arith, c.if-v-lt-MOST_TAGS.false)) c.ends-else-v-lt-MOST_TAGS.ensures
