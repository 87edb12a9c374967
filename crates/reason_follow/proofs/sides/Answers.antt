-- `reason_follow::sides` meets its contract: the end on the side of s is the one that has its leader by older joins.
-- Assumes nothing.
use borrow.Author.Tests.{eqb-false, eqb-true}
use mathlib.Core.Path.{◌≡◌, sym, ◌∙◌, ap}
use mathlib.Core.Logic.{◌≢◌}
use mathlib.Core.List.{List}
use Prim.Native.Nat.{ℕ}
use native.Mathlib.Omega.{arith}
use Rattle.moment.proofs.Kept.{past-forest}
use Rattle.moment.specs.Meeting.{leader_at}
use Rattle.reason_follow.specs.Tracing.{Crossed, Ended, Sided}
use Rattle.reason_follow.proofs.Crossing.{holds-ranged, sided-over, sided-back}
use Rattle.reason_follow.proofs.sides.Goals as goal

module _ (w : List ℕ) (s t b near far l m : ℕ) (X : Crossed w s t b) (e : Ended w b near far) (p : l ≡ leader_at w b s) (q : m ≡ leader_at w b near) where
  over : l ≡ m → Sided w s t b near far
  over i = rw (e.near-is, e.far-is) (sided-over X (sym p ∙ i ∙ q ∙ ap (leader_at w b) e.near-is))

  back : l ≢ m → Sided w s t b far near
  back i = rw (e.near-is, e.far-is) (sided-back X (λ h. i (p ∙ h ∙ ap (leader_at w b) (sym e.near-is) ∙ sym q)))

pub ends-requires : goal.ends-requires
ends-requires c = c.requires.holds

pub leader-l-requires : goal.leader-l-requires
leader-l-requires c = record { forested = past-forest c.requires.holds.past; age_le_most_tags = (omega (arith, (holds-ranged c.requires.holds).age), c.requires.from) }

pub leader-m-requires : goal.leader-m-requires
leader-m-requires c = record { forested = past-forest c.requires.holds.past; age_le_most_tags = (omega (arith, (holds-ranged c.requires.holds).age), omega (arith, (holds-ranged c.requires.holds).u-tag, c.ends.ensures.near-is)) }

pub returns-then-eq : goal.returns-then-eq
returns-then-eq c = over _ _ _ _ _ _ _ _ c.requires c.ends.ensures c.leader-l.ensures c.leader-m.ensures (eqb-true _ _ (sym c.eq.ensures ∙ c.if-eq.true))

pub returns-else-eq : goal.returns-else-eq
returns-else-eq c = back _ _ _ _ _ _ _ _ c.requires c.ends.ensures c.leader-l.ensures c.leader-m.ensures (eqb-false _ _ (sym c.eq.ensures ∙ c.if-eq.false))
