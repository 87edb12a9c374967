-- Document 01, "The program": numbers are decimal. The text of a number, byte by byte.
-- Assumes nothing.
use Rattle.std.specs.Prelude.{ℕ, zero, suc, ◌+◌, ◌/◌, ◌%◌, cond, List, [], ◌∷◌, ◌++◌, ltb}

-- A number in decimal, with no zero before it; 0 is the digit 0, byte 48. A digit fewer is left at each turn, so that a number has
-- fewer digits than itself and one (proofs/Digits, digits-enough).
unfoldable pub digits_by : ℕ → ℕ → List ℕ
digits_by zero n = []
digits_by (suc turns) n = cond (ltb n 10) ((48 + n) ∷ []) (digits_by turns (n / 10) ++ ((48 + n % 10) ∷ []))

unfoldable pub digits : ℕ → List ℕ
digits n = digits_by (suc n) n
