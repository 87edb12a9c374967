-- What a truth value that was computed says: a test that is false where a fact fails, and a comparison that says the fact.
-- Assumes nothing.
use Prim.Native.Nat.{ℕ}
use native.Mathlib.Omega.{arith}
use mathlib.Core.Path.{◌≡◌, ap}
use mathlib.Core.Logic.{◌↔◌}
use mathlib.Core.Bool.{Bool, true, false, cond}
use lib.Dec.{eqb}
use borrow.Author.Tests.{eq-eqb, eqb-true}

-- One truth value is not both.
pub true-or-false : {b : Bool} → b ≡ true → b ≡ false → ⊥
true-or-false t f = let z : ◌≡◌ {A = ℕ} 0 1 = cc in omega arith

-- A test that is false where a fact fails, and one that says the fact.
pub is-not : {A : Type 0} → (A → ⊥) → (false ≡ true) ↔ A
is-not f = (λ e. let z : ◌≡◌ {A = ℕ} 0 1 = ap (λ (b : Bool). cond b 1 0) e in absurd (omega arith), λ a. absurd (f a))

pub is-so : {A : Type 0} (m n : ℕ) → (m ≡ n → A) → (A → m ≡ n) → (eqb m n ≡ true) ↔ A
is-so m n f g = (λ e. f (eqb-true m n e), λ a. eq-eqb m n (g a))
