-- What following remembers: tags with one label are shown equal already. MACHINERY, no meaning rests on it. Assumes nothing.
use Rattle.std.specs.Prelude.{ℕ, ◌+◌, ◌≤◌, ◌<◌, ◌≡◌, Bool, true, List, T}
use Rattle.meaning.specs.Joins.{Join, Linked, Joined, put}
use Rattle.meaning.specs.Labels.{into}
use Rattle.meaning.specs.Limits.{most_tags}
use Rattle.table.specs.Map.{label_of, join_at, Within}
use Rattle.table.specs.Places.{LABEL, NEXT, HEADS, SAVED, Part, all_of, closure_part, from_to}
use Rattle.moment.specs.Holding.{marked}

-- Tags that are labelled alike are linked by marked ones of the first n joins; and the ends of each of these were apart before it.
pub record Shown (e : ℕ → Join) (m : ℕ → Bool) (n : ℕ) (f : ℕ → ℕ) : Type 0 where
  pub linked : (x y : ℕ) → x < most_tags → y < most_tags → f x ≡ f y → Linked e m n x y
  pub useful : (a : ℕ) → a < n → T (m a) → Joined e a (e a).u (e a).v → ⊥

-- The labels of the table tell what its marked joins show, among them those older than `limit`.
pub record Remembers (w : List ℕ) (limit : ℕ) : Type 0 where
  pub top : ℕ
  pub reach : limit ≤ top
  pub shown : Shown (join_at w) (marked w) top (label_of w)

-- From w to w' the tags with the label of x were given that of y.
pub record Noted (w w' : List ℕ) (x y : ℕ) : Type 0 where
  pub kept : Within (all_of LABEL) w w'
  pub labels : (z : ℕ) → z < most_tags → label_of w' z ≡ into (label_of w y) (label_of w x) (label_of w z)

-- Behind the joins that wait stand the ages of those that were taken, in their order, and how many they are. It only tells the order in which their records are listed: any numbers are right.
abbrev pub order_part : Part
order_part = from_to (NEXT.at + most_tags) HEADS.at

-- These and the marks.
abbrev pub taken_part : Part
taken_part = from_to (NEXT.at + most_tags) SAVED.at

-- From w to w' the join of age b was taken: it is marked.
pub record Taken (w w' : List ℕ) (b : ℕ) : Type 0 where
  pub kept : Within taken_part w w'
  pub marks : marked w' ≡ put b true (marked w)

-- From w to w' all was forgotten: each tag is its own label, and no mark was changed.
pub record Forgot (w w' : List ℕ) : Type 0 where
  pub kept : Within closure_part w w'
  pub labels : (x : ℕ) → label_of w' x ≡ x
