-- MACHINERY for the proofs; no meaning rests on it. A labelling gives each tag the smallest tag that is known to be equal to it.
-- Assumes nothing.
use Rattle.std.specs.Prelude.{ℕ, ◌≤◌, ◌≡◌, cond, List, eqb, get_or}
use Rattle.meaning.specs.Joins.{Join, Joined, count}

-- Labels lead down, and a label is its own.
pub record Labels (f : ℕ → ℕ) : Type 0 where
  pub low : (x : ℕ) → f x ≤ x
  pub flat : (x : ℕ) → f (f x) ≡ f x

-- The label hi becomes lo.
abbrev pub into : ℕ → ℕ → ℕ → ℕ
into lo hi y = cond (eqb y hi) lo y

-- How many tags below N are their own label.
abbrev pub classes : (ℕ → ℕ) → ℕ → ℕ
classes f N = count (λ x. eqb (f x) x) N

-- A list as a labelling: a tag that it does not reach is its own label.
abbrev pub label_of : List ℕ → ℕ → ℕ
label_of l x = get_or l x x

-- The labels are equal exactly where the first n joins connect.
pub record Agree (e : ℕ → Join) (n : ℕ) (f : ℕ → ℕ) : Type 0 where
  pub labels : (x y : ℕ) → Joined e n x y → f x ≡ f y
  pub joins : (x y : ℕ) → f x ≡ f y → Joined e n x y
