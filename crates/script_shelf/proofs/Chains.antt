-- Going down a chain jumps over nothing that is sought. One law over the key and the test; names and parts cite it. Assumes nothing.
use Prim.Native.Nat.{ℕ, zero, suc, ◌≤◌}
use native.Mathlib.Omega.{arith}
use mathlib.Core.Path.{◌≡◌, refl}
use mathlib.Core.Bool.{Bool, true, false, cond}
use lib.Dec.{T}
use Rattle.script_shelf.specs.Chain.{last_of}

pub last-most : (f : ℕ → Bool) (n : ℕ) → last_of f n ≤ n
last-most f zero = omega arith
last-most f (suc n) = go (f n) (last-most f n)
  where
    go : (b : Bool) → last_of f n ≤ n → cond b (suc n) (last_of f n) ≤ suc n
    go true h = omega arith
    go false h = omega arith

-- The last of a key holds the test, if any does: what passes f has the key.
module _ (f g : ℕ → Bool) (same : (k : ℕ) → T (f k) → T (g k)) where
  pub last-skip : (n : ℕ) → last_of f n ≡ last_of f (last_of g n)
  last-skip zero = refl
  last-skip (suc n) = go (g n) (f n) refl (same n) (last-skip n)
    where
      go : (b c : Bool) → f n ≡ c → (T c → T b) → last_of f n ≡ last_of f (last_of g n) → cond c (suc n) (last_of f n) ≡ last_of f (cond b (suc n) (last_of g n))
      go true c e h i = rw e refl
      go false true e h i = absurd (h tt)
      go false false e h i = i

-- Downwards from a number that fails the test.
pub last-fail : (f : ℕ → Bool) (k : ℕ) → (T (f k) → ⊥) → last_of f (suc k) ≡ last_of f k
last-fail f k h = go (f k) h
  where
    go : (b : Bool) → (T b → ⊥) → cond b (suc k) (last_of f k) ≡ last_of f k
    go true h = absurd (h tt)
    go false h = refl

pub last-hit : (f : ℕ → Bool) (k : ℕ) → T (f k) → last_of f (suc k) ≡ suc k
last-hit f k h = go (f k) h
  where
    go : (b : Bool) → T b → cond b (suc k) (last_of f k) ≡ suc k
    go true h = refl
    go false h = absurd h
