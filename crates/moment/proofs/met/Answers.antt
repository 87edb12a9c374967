-- `moment::met` meets its contract: no join is as old as 1,000, so by those older than that it is by all. Assumes nothing.
use Prim.Native.Nat.{ℕ}
use native.Mathlib.Omega.{arith}
use mathlib.Core.List.{List}
use mathlib.Core.Path.{◌≡◌}
use Rattle.meaning.specs.Limits.{most_tags}
use Rattle.moment.specs.Meeting.{Met}
use Rattle.moment.specs.Deep.{MetBefore}
use Rattle.moment.proofs.met.Goals as goal

by-all : {w : List ℕ} {s t b : ℕ} → MetBefore w most_tags s t b → Met w s t b
by-all m = record { most = m.most; joined = m.joined; apart = m.apart }

pub met_before-b-requires : goal.met_before-b-requires
met_before-b-requires c = record { forested = c.requires.forested; top_le_most_tags = (omega arith, c.requires.s_lt_most_tags.0, c.requires.s_lt_most_tags.1, c.requires.s_lt_most_tags.2) }

pub returns-then-b-lt-MOST_TAGS : goal.returns-then-b-lt-MOST_TAGS
returns-then-b-lt-MOST_TAGS c = (by-all c.met_before-b.ensures, omega (arith, c.if-b-lt-MOST_TAGS.true))

pub returns-else-b-lt-MOST_TAGS : goal.returns-else-b-lt-MOST_TAGS
returns-else-b-lt-MOST_TAGS c =
    let m = c.met_before-b.ensures in
    let e : c.met_before-b.result ≡ most_tags = omega (arith, m.most, c.if-b-lt-MOST_TAGS.false) in
    rw e at (by-all m)
