-- The digits of a number are those of its tenth part and its last one. A tenth part is smaller, so that the turns given are never
-- spent.
-- Assumes nothing.
use Prim.Native.Nat.{ℕ, zero, suc, ◌+◌, ◌/◌, ◌%◌, ◌≤◌, ◌<◌}
use native.Mathlib.Omega.{arith}
use native.Mathlib.Decide.{dec_lt}
use mathlib.Core.Path.{◌≡◌}
use mathlib.Core.List.{[], ◌∷◌, ◌++◌}
use borrow.Author.Tests.{lt-ltb, le-ltb}
use Rattle.text_line.specs.Digits.{digits_by, digits}

pub digits-enough : (turns more n : ℕ) → n < turns → n < more → digits_by turns n ≡ digits_by more n
unfolding digits_by
digits-enough zero more n h k = absurd (omega arith)
digits-enough (suc turns) zero n h k = absurd (omega arith)
digits-enough (suc turns) (suc more) n h k = go (λ l. digits-enough turns more (n / 10) (omega arith) (omega arith)) (dec_lt n 10)
  where
    go : (10 ≤ n → digits_by turns (n / 10) ≡ digits_by more (n / 10)) → Dec (n < 10) → digits_by (suc turns) n ≡ digits_by (suc more) n
    go tenth (yes l) = rw (lt-ltb n 10 l)
    go tenth (no l) =
        let g : 10 ≤ n = omega arith in
        rw (le-ltb n 10 g, tenth g)

pub digits-one : (n : ℕ) → n < 10 → digits n ≡ (48 + n) ∷ []
unfolding digits digits_by
digits-one n l = rw (lt-ltb n 10 l)

pub digits_more : (n : ℕ) → 10 ≤ n → digits n ≡ digits (n / 10) ++ ((48 + n % 10) ∷ [])
unfolding digits digits_by
digits_more n l = rw (le-ltb n 10 l, digits-enough n (suc (n / 10)) (n / 10) (omega arith) (omega arith))
