-- A search down a chain of links, which stand in a column of a table. Assumes nothing.
use Rattle.std.specs.Prelude.{ℕ, ◌+◌, ◌≤◌, ◌<◌, ◌≡◌, Bool, List, T, length, get_or, Option, MatchOption}
use Rattle.script_shelf.specs.Chain.{last_of}
use Rattle.script_shelf.specs.Keys.{Chain}

-- What the search asks: the links lead down, and each of the n things may be tested.
pub record Linked (w : List ℕ) (links n head : ℕ) (pre : ℕ → Type 0) : Type 0 where
  pub long : 32768 ≤ length w
  pub column : links + n ≤ 32768
  pub first : head ≤ n
  pub falls : (k : ℕ) → k < n → get_or w (links + k) 0 ≤ k
  pub asks : (k : ℕ) → k < n → pre k

-- The test says f, things that pass it have the key x, and the chain is that of the key.
pub record Keyed (w : List ℕ) (links n head : ℕ) (post : ℕ → Bool → Type 0) (f : ℕ → Bool) (key : ℕ → ℕ) (x : ℕ) : Type 0 where
  pub says : (k : ℕ) → k < n → (r : Bool) → post k r → r ≡ f k
  pub same : (k : ℕ) → T (f k) → key k ≡ x
  pub chain : Chain key (λ k. get_or w (links + k) 0) n x head

-- What it finds: the last of all that passes.
pub record Sought (w : List ℕ) (links n head : ℕ) (post : ℕ → Bool → Type 0) (r : Option ℕ) : Type 0 where
  pub found : {f : ℕ → Bool} {key : ℕ → ℕ} {x : ℕ} → Keyed w links n head post f key x → MatchOption r (last_of f n ≡ 0) (λ k. (last_of f n ≡ k + 1) × (k < n))
