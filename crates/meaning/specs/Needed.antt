-- MACHINERY for the proofs; no meaning rests on it. Which joins following a reason comes by: the newest join between two tags, those that lead up to it on either side, and
-- those between its arguments. Document 01, "Reasons": a reason can be followed to its end. Assumes nothing.
use Rattle.std.specs.Prelude.{ℕ, ◌<◌, ◌≡◌, ◌⊎◌, Bool, List, T}
use Rattle.meaning.specs.Following.{Rec, app, At, Follows}
use Rattle.meaning.specs.Joins.{Join, cong, Joined}

-- Join b is the newest between s and t: its ends are near and far, the one on the side of s first, and only older joins lie on both sides.
pub record Crosses (e : ℕ → Join) (s t b near far : ℕ) : Type 0 where
  pub apart : Joined e b s t → ⊥
  pub from : Joined e b s near
  pub onto : Joined e b far t
  pub either : ((near ≡ (e b).u) × (far ≡ (e b).v)) ⊎ ((near ≡ (e b).v) × (far ≡ (e b).u))

-- What is followed: two tags, or a join and what it rests on.
pub data Aim : Type 0 where
  tags : ℕ → ℕ → Aim
  join : ℕ → Aim

-- Following this comes by join a.
pub data Needed (rs : List Rec) (e : ℕ → Join) : Aim → ℕ → Type 0 where
  near-side : {s t b near far a : ℕ} → Crosses e s t b near far → Needed rs e (tags s near) a → Needed rs e (tags s t) a
  far-side : {s t b near far a : ℕ} → Crosses e s t b near far → Needed rs e (tags far t) a → Needed rs e (tags s t) a
  across : {s t b near far a : ℕ} → Crosses e s t b near far → Needed rs e (join b) a → Needed rs e (tags s t) a
  itself : {b : ℕ} → Needed rs e (join b) b
  lefts : {b k k' x y x' y' a : ℕ} → (e b).why ≡ cong k k' → At rs k (app x y (e b).u) → At rs k' (app x' y' (e b).v) → Needed rs e (tags x x') a → Needed rs e (join b) a
  rights : {b k k' x y x' y' a : ℕ} → (e b).why ≡ cong k k' → At rs k (app x y (e b).u) → At rs k' (app x' y' (e b).v) → Needed rs e (tags y y') a → Needed rs e (join b) a

-- Join a is of two applications, and x and y are the arguments of the first of them.
pub record Arguments (rs : List Rec) (e : ℕ → Join) (a x y : ℕ) : Type 0 where
  pub first : ℕ
  pub second : ℕ
  pub result : ℕ
  pub why : (e a).why ≡ cong first second
  pub at : At rs first (app x y result)

-- No two of the marked ones of the first n joins are alike: by S, their arguments are not both equal.
pub record Unlike (rs : List Rec) (e : ℕ → Join) (m : ℕ → Bool) (n : ℕ) (S : Rec → Type 0) : Type 0 where
  pub differ : (a b x y x' y' : ℕ) → a < n → b < n → T (m a) → T (m b) → Arguments rs e a x y → Arguments rs e b x' y' → Follows S x x' → Follows S y y' → a ≡ b
