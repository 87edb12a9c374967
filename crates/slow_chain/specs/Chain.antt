-- Machinery: the chains of places that a pass fills as it goes. No meaning rests on it. A link is 0, or one more than a place. Assumes nothing.
use Rattle.std.specs.Prelude.{ℕ, ◌-◌, ◌≤◌, ◌<◌, ◌≡◌, Bool, false}
use Rattle.table_labels.specs.Chain.{look}

-- Chains begin below i, lead down, and hold no equation.
pub record Chains (eqn : ℕ → Bool) (hd nx : ℕ → ℕ) (i : ℕ) : Type 0 where
  pub heads : (b : ℕ) → hd b ≤ i
  pub falls : (r : ℕ) → nx r ≤ r
  pub head-app : (b : ℕ) → 0 < hd b → eqn (hd b - 1) ≡ false
  pub next-app : (r : ℕ) → 0 < nx r → eqn (nx r - 1) ≡ false

-- Each application below i is found by its key, or one with its key and its result's label.
pub record Filled (B : ℕ) (eqn : ℕ → Bool) (key res hd nx : ℕ → ℕ) (i : ℕ) : Type 0 where
  pub found : (j : ℕ) → j < i → eqn j ≡ false → 0 < look B key hd nx (key j)
  pub agree : (j : ℕ) → j < i → eqn j ≡ false → res (look B key hd nx (key j) - 1) ≡ res j
