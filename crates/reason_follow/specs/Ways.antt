-- The way from one tag to another, join by join, with the joins that wait to be crossed in the table. Document 02, No. 5: less stack.
-- Assumes nothing.
use Rattle.std.specs.Prelude.{ℕ, zero, suc, ◌+◌, ◌-◌, ◌*◌, ◌≤◌, ◌<◌, ◌≡◌, ◌⊎◌, cond, List, T, ltb, set}
use Rattle.meaning.specs.Following.{Rec}
use Rattle.meaning.specs.Joins.{Join, Linked, Joined}
use Rattle.meaning.specs.Needed.{tags, join, Needed}
use Rattle.meaning.specs.Limits.{most_tags, most_records}
use Rattle.table.specs.Map.{label_of, next_of, join_at, Within}
use Rattle.table.specs.Places.{LABEL, NEXT, SAVED, Part, from_to}
use Rattle.moment.specs.Meeting.{leader_at}
use Rattle.moment.specs.Holding.{Holds, marked}
use Rattle.reason_follow.specs.Shown.{Shown, Remembers}

-- What following writes: the labels, by which it remembers what is shown; the joins that wait, where the chains of a closure stand at other times; and the marks.
abbrev pub follow_part : Part
follow_part = from_to LABEL.at SAVED.at

-- How the join of age b waits to be crossed, from near to far: by its age where near is its first tag, by 1,000 more where it is its second.
pub record Entry (e : ℕ → Join) (v b near far : ℕ) : Type 0 where
  pub either : ((v ≡ b) × (near ≡ (e b).u) × (far ≡ (e b).v)) ⊎ ((v ≡ most_tags + b) × (near ≡ (e b).v) × (far ≡ (e b).u))

abbrev pub age_in : ℕ → ℕ
age_in v = cond (ltb v most_tags) v (v - most_tags)

-- A join that waits on the way from s to t: its ends were apart before it, behind it older joins lead on from far to y, and following s and t comes by these and by the join.
pub record Waits (w : List ℕ) (s t v low y b near far : ℕ) : Type 0 where
  pub older : b < low
  pub entry : Entry (join_at w) v b near far
  pub apart : Joined (join_at w) b (join_at w b).u (join_at w b).v → ⊥
  pub y-tag : y < most_tags
  pub onto : leader_at w b far ≡ leader_at w b y
  pub beyond : (rs : List Rec) (a : ℕ) → Needed rs (join_at w) (tags far y) a → Needed rs (join_at w) (tags s t) a
  pub itself : (rs : List Rec) (a : ℕ) → Needed rs (join_at w) (join b) a → Needed rs (join_at w) (tags s t) a

-- n joins wait, as f has them, each older than the one before: y is the near end of the last one and `low` its age; where none waits they are t and `limit`.
pub data Waiting (w : List ℕ) (f : ℕ → ℕ) (limit s t : ℕ) : ℕ → ℕ → ℕ → Type 0 where
  none : Waiting w f limit s t 0 limit t
  after : {n low y b near far : ℕ} → Waiting w f limit s t n low y → Waits w s t (f n) low y b near far → Waiting w f limit s t (suc n) b near

-- On the way from s to t, in a table that was w₀ at its start: marked joins lead from s to x, joins older than `below` from x to y, and n joins wait. The labels tell what is shown.
pub record OnWay (w₀ w : List ℕ) (limit s t x y below n : ℕ) : Type 0 where
  pub kept : Within follow_part w₀ w
  pub holds : Holds w₀ limit
  pub x-tag : x < most_tags
  pub y-tag : y < most_tags
  pub low : ℕ
  pub waiting : Waiting w₀ (next_of w) limit s t n low y
  pub under : below ≤ low
  pub equal : leader_at w₀ below x ≡ leader_at w₀ below y
  pub linked : Linked (join_at w₀) (marked w) limit s x
  pub top : ℕ
  pub reach : limit ≤ top
  pub shown : Shown (join_at w₀) (marked w) top (label_of w)
  pub needed : (rs : List Rec) (a : ℕ) → Needed rs (join_at w₀) (tags x y) a → Needed rs (join_at w₀) (tags s t) a
  pub more : (a : ℕ) → T (marked w₀ a) → T (marked w a)
  pub fresh : (a : ℕ) → T (marked w a) → T (marked w₀ a) ⊎ ((a < limit) × ((rs : List Rec) → Needed rs (join_at w₀) (tags s t) a))

pub record SomeWay (w : List ℕ) (t x y below n : ℕ) : Type 0 where
  pub w₀ : List ℕ
  pub limit : ℕ
  pub s : ℕ
  pub way : OnWay w₀ w limit s t x y below n

-- By what is left of it a way falls: each join weighs four times as much as all before it.
abbrev pub heft : ℕ → ℕ
heft zero = 1
heft (suc b) = 4 * heft b

abbrev pub pile : (ℕ → ℕ) → ℕ → ℕ
pile f zero = 0
pile f (suc n) = heft (age_in (f n)) + 1 + pile f n

abbrev pub weight : List ℕ → ℕ → ℕ → ℕ
weight w below n = heft below + pile (next_of w) n

-- One step further, wherever the way began.
pub record Onward (w : List ℕ) (t x y below n : ℕ) (w' : List ℕ) (x' y' below' n' : ℕ) : Type 0 where
  pub kept : Within follow_part w w'
  pub way : (w₀ : List ℕ) (limit s : ℕ) → OnWay w₀ w limit s t x y below n → OnWay w₀ w' limit s t x' y' below' n'
  pub falls : weight w' below' n' < weight w below n

-- A join waits at place n.
pub record Listed (w : List ℕ) (n : ℕ) : Type 0 where
  pub place : n < most_records
  pub b : ℕ
  pub near : ℕ
  pub far : ℕ
  pub holds : Holds w (suc b)
  pub entry : Entry (join_at w) (next_of w n) b near far

pub record Read (w : List ℕ) (n b near far : ℕ) : Type 0 where
  pub age : b < most_tags
  pub entry : Entry (join_at w) (next_of w n) b near far

-- A join of which near and far are the ends comes to wait at place n.
pub record Put (w w' : List ℕ) (n b near far : ℕ) : Type 0 where
  pub v : ℕ
  pub is : w' ≡ set w (NEXT.at + n) v
  pub entry : Entry (join_at w) v b near far

pub record Turned (w : List ℕ) (n b near far : ℕ) : Type 0 where
  pub place : n < most_tags
  pub holds : Holds w (suc b)
  pub either : ((near ≡ (join_at w b).u) × (far ≡ (join_at w b).v)) ⊎ ((near ≡ (join_at w b).v) × (far ≡ (join_at w b).u))

-- The tag up to which the way is known, where n joins wait.
pub record Asks (w : List ℕ) (n : ℕ) : Type 0 where
  pub last : (m : ℕ) → n ≡ suc m → Listed w m

pub record Nearest (w : List ℕ) (t n y : ℕ) : Type 0 where
  pub first : n ≡ 0 → y ≡ t
  pub far : ℕ
  pub b : ℕ
  pub last : (m : ℕ) → n ≡ suc m → Read w m b y far

-- The whole way: marked joins older than `limit` link s and t, and no join was marked that following the two does not come by.
pub record Passed (w w' : List ℕ) (limit s t : ℕ) : Type 0 where
  pub kept : Within follow_part w w'
  pub linked : Linked (join_at w) (marked w') limit s t
  pub remembers : Remembers w' limit
  pub more : (a : ℕ) → T (marked w a) → T (marked w' a)
  pub fresh : (a : ℕ) → T (marked w' a) → T (marked w a) ⊎ ((a < limit) × ((rs : List Rec) → Needed rs (join_at w) (tags s t) a))
