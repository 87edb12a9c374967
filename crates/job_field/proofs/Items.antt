-- The needed room is the sum over the questions, each with the records before it, and the tags that `Tagged` bounds are all there are.
-- Assumes nothing.
use Prim.Native.Nat.{ℕ, suc, ◌+◌, ◌≤◌, ◌<◌}
use native.Mathlib.Omega.{arith}
use mathlib.Core.Path.{◌≡◌, refl, ap}
use mathlib.Core.List.Memᴰ
use mathlib.Core.List.{List, [], ◌∷◌, Memᴰ}
use mathlib.Core.Logic.{inl, inr}
use lib.ListN.{length, length-append}
use Rattle.job_field.specs.Items.{Head, Note, line, differ, pairs_noted, pairs_of, Moment, after, Item, noted, posed, stands_for, records_of, questions_of, room_for, needed_room, tags_of, Asked, asked_of}
use Rattle.job_field.specs.Standing.{Below, Tagged}

abbrev pub room_for_all : Head → List Asked → ℕ
room_for_all H [] = 7
room_for_all H (a ∷ others) = room_for H a.moment a.question + room_for_all H others

pub needed-asked : (H : Head) (b : Moment) (is : List Item) → needed_room H b is ≡ room_for_all H (asked_of b is)
needed-asked H b [] = refl
needed-asked H b (noted n ∷ is) = needed-asked H (after (noted n) b) is
needed-asked H b (posed q ∷ is) = ap (λ (n : ℕ). room_for H b q + n) (needed-asked H (after (posed q) b) is)

pub asked-count : (b : Moment) (is : List Item) → length (asked_of b is) ≡ questions_of is
asked-count b [] = refl
asked-count b (noted n ∷ is) = asked-count (after (noted n) b) is
asked-count b (posed q ∷ is) = ap suc (asked-count (after (posed q) b) is)

-- The records before what stands behind an item, and those behind it, are those before it and from it on.
pub after-records : (b : Moment) (i : Item) (is : List Item) → (after i b).records + length (records_of is) ≡ b.records + length (records_of (i ∷ is))
after-records b (noted n) is = omega (arith, length-append (stands_for n) (records_of is))
after-records b (posed q) is = refl

pub after-differs : (b : Moment) (i : Item) (is : List Item) → (after i b).differs + length (pairs_of is) ≡ b.differs + length (pairs_of (i ∷ is))
after-differs b (noted n) is = omega (arith, length-append (pairs_noted n) (pairs_of is))
after-differs b (posed q) is = refl

pub after-questions : (b : Moment) (i : Item) (is : List Item) → (after i b).questions + questions_of is ≡ b.questions + questions_of (i ∷ is)
after-questions b (noted n) is = refl
after-questions b (posed q) is = omega arith

-- A note stands for few records.
pub stands-few : (n : Note) → length (stands_for n) ≤ 1
stands-few (line r h) = omega arith
stands-few (differ a b) = omega arith

pub pairs-few : (n : Note) → length (pairs_noted n) ≤ 1
pairs-few (line r h) = omega arith
pairs-few (differ a b) = omega arith

pub below_each : (N t : ℕ) (ts : List ℕ) → Below N ts → Memᴰ t ts → t < N
below_each N t [] h m = absurd (Memᴰ.not-nil m)
below_each N t (a ∷ ts) h m = elim (Memᴰ.cases_cons m) [ inl e ↦ rw e h.0 | inr n ↦ below_each N t ts h.1 n ]

pub tagged-below : (N t : ℕ) (i : Item) → Tagged N i → Memᴰ t (tags_of i) → t < N
tagged-below N t i = below_each N t (tags_of i)
