-- Machinery: the applications that wait stand in one row. No meaning rests on it. A number is 0 at the row's end, or one more than a place. Assumes nothing.
use Rattle.std.specs.Prelude.{ℕ, suc, ◌<◌, ◌≡◌, Bool, false, eqb}
use mathlib.Core.List.{List, [], ◌∷◌, Memᴰ}
use Rattle.meaning.specs.Joins.{count}

-- From a number the row goes by these places and ends, and comes by none of them twice.
pub data Row (nx : ℕ → ℕ) : ℕ → List ℕ → Type 0 where
  end : Row nx 0 []
  step : {r : ℕ} {l : List ℕ} → Row nx (nx r) l → (Memᴰ r l → ⊥) → Row nx (suc r) (r ∷ l)

-- Of the first i places: the row from the number first goes by the applications that wait, and by no others.
pub record Queue (i : ℕ) (eqn : ℕ → Bool) (ch wt : ℕ → ℕ) (first : ℕ) : Type 0 where
  pub members : List ℕ
  pub row : Row wt first members
  pub all : (j : ℕ) → j < i → eqn j ≡ false → ch j ≡ 0 → Memᴰ j members
  pub only : (j : ℕ) → Memᴰ j members → (j < i) × (eqn j ≡ false) × (ch j ≡ 0)

-- How many of the first i places have 0 for what stands there.
abbrev pub waiting : ℕ → (ℕ → ℕ) → ℕ
waiting i ch = count (λ j. eqb (ch j) 0) i
