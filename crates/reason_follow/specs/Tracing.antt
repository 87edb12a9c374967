-- Following a reason through the joins. Document 01, "Reasons": the arguments of a pair rest on joins made earlier than itself.
-- Assumes nothing.
use Rattle.std.specs.Prelude.{ℕ, suc, ◌≤◌, ◌<◌, ◌≡◌, ◌⊎◌, List, T}
use Rattle.meaning.specs.Following.{Rec}
use Rattle.meaning.specs.Joins.{Linked, Grounds, Supported}
use Rattle.meaning.specs.Walk.{Walked}
use Rattle.meaning.specs.Needed.{Aim, join, Needed}
use Rattle.meaning.specs.Limits.{most_tags}
use Rattle.table.specs.Map.{left_of, right_of, first_of, second_of, mark_of, join_at, records_in, Within}
use Rattle.table.specs.Past.{Past}
use Rattle.table.specs.Places.{MARKS, all_of}
use Rattle.moment.specs.Meeting.{leader_at, Met}
use Rattle.moment.specs.Holding.{Holds, marked}
use Rattle.reason_follow.specs.Shown.{Remembers}
use Rattle.reason_follow.specs.Ways.{follow_part}

-- s and t are tags that the joins older than `limit` bring together.
pub record Together (w : List ℕ) (s t limit : ℕ) : Type 0 where
  pub holds : Holds w limit
  pub from : s < most_tags
  pub to : t < most_tags
  pub equal : leader_at w limit s ≡ leader_at w limit t

-- And none of these joins is marked.
pub record Unfollowed (w : List ℕ) (s t limit : ℕ) : Type 0 where
  pub together : Together w s t limit
  pub none : (a : ℕ) → a < limit → T (marked w a) → ⊥

-- s and t are tags, and b is the age of the newest join between them.
pub record Crossed (w : List ℕ) (s t b : ℕ) : Type 0 where
  pub holds : Holds w (suc b)
  pub from : s < most_tags
  pub to : t < most_tags
  pub met : Met w s t b

-- The two tags that the join of age b brought together.
pub record Ended (w : List ℕ) (b near far : ℕ) : Type 0 where
  pub near-is : near ≡ (join_at w b).u
  pub far-is : far ≡ (join_at w b).v

-- The two tags that the join of age b brought together, the one on the side of s first: older joins lead from s to it, and from the
-- other to t.
pub record Sided (w : List ℕ) (s t b near far : ℕ) : Type 0 where
  pub near-tag : near < most_tags
  pub far-tag : far < most_tags
  pub from : leader_at w b s ≡ leader_at w b near
  pub onto : leader_at w b far ≡ leader_at w b t
  pub either : ((near ≡ (join_at w b).u) × (far ≡ (join_at w b).v)) ⊎ ((near ≡ (join_at w b).v) × (far ≡ (join_at w b).u))

-- The second record of the join of age b, and the argument pairs of its two records: a with a', c with c'.
pub record Caused (w : List ℕ) (b second a a' c c' : ℕ) : Type 0 where
  pub second_is : second ≡ second_of w b
  pub a-is : a ≡ left_of w (first_of w b)
  pub a'-is : a' ≡ left_of w (second_of w b)
  pub c-is : c ≡ right_of w (first_of w b)
  pub c'-is : c' ≡ right_of w (second_of w b)

-- From w to w' only marks were set, and what waited and what was shown was written; and whatever records the table holds: where the marked joins rested on marked ones they still do,
-- and the marked joins older than `limit` now link s and t. No join was marked that following the aim, two tags or a join, does not come by.
pub record Traced (w w' : List ℕ) (limit s t : ℕ) (aim : Aim) : Type 0 where
  pub kept : Within follow_part w w'
  pub walked : (N len n : ℕ) → Past N len w n → limit ≤ n → Supported (records_in len w) (join_at w) (marked w) n
      → Walked (records_in len w) (join_at w) n (marked w) (marked w') limit s t
  pub needed : (N len n : ℕ) → Past N len w n → limit ≤ n → (a : ℕ) → T (marked w' a) → T (marked w a) ⊎ Needed (records_in len w) (join_at w) aim a

-- From w to w' marks were set of joins older than that of age b: where this is marked, marked ones now lead between its arguments, and following it comes by each that was set.
pub record Rested (w w' : List ℕ) (b : ℕ) : Type 0 where
  pub kept : Within follow_part w w'
  pub remembers : Remembers w' b
  pub more : (a : ℕ) → T (marked w a) → T (marked w' a)
  pub grounds : (N len n : ℕ) → Past N len w n → b < n → T (marked w b) → Grounds (records_in len w) (Linked (join_at w) (marked w') b) (join_at w b).u (join_at w b).v (join_at w b).why
  pub fresh : (N len n : ℕ) → Past N len w n → b < n → (a : ℕ) → T (marked w' a) → T (marked w a) ⊎ ((a < b) × T (marked w b) × Needed (records_in len w) (join_at w) (join b) a)

-- Following some join that was marked in w, older than `limit`, comes by join a.
pub record Behind (rs : List Rec) (w : List ℕ) (limit a : ℕ) : Type 0 where
  pub by : ℕ
  pub older : by < limit
  pub was : T (marked w by)
  pub needed : Needed rs (join_at w) (join by) a

-- From w to w' marks were set until every marked join older than `limit` rested on marked ones.
pub record Swept (w w' : List ℕ) (limit : ℕ) : Type 0 where
  pub kept : Within follow_part w w'
  pub more : (a : ℕ) → T (marked w a) → T (marked w' a)
  pub grounds : (N len n : ℕ) → Past N len w n → limit ≤ n → (a : ℕ) → a < limit → T (marked w' a)
      → Grounds (records_in len w) (Linked (join_at w) (marked w') a) (join_at w a).u (join_at w a).v (join_at w a).why
  pub fresh : (N len n : ℕ) → Past N len w n → limit ≤ n → (a : ℕ) → T (marked w' a) → T (marked w a) ⊎ ((a < limit) × Behind (records_in len w) w limit a)

-- From w to w' only marks were taken off, all those of the first n joins.
pub record Unmarked (w w' : List ℕ) (n : ℕ) : Type 0 where
  pub kept : Within (all_of MARKS) w w'
  pub none : (a : ℕ) → a < n → mark_of w' a ≡ 0
