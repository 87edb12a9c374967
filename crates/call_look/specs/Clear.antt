-- What is cleared, the named places of the work table, and when.
-- Assumes nothing.
use Rattle.std.specs.Prelude.{ℕ, ◌<◌, ◌≡◌, Bool, true, false, List, length, get_or, drop}
use Rattle.meaning.specs.Limits.{named_numbers}

-- The named places of the work table are zero and the rest is as it was.
pub record Cleared (w w' : List ℕ) : Type 0 where
  pub size : length w' ≡ length w
  pub zero : (i : ℕ) → i < named_numbers → get_or w' i 0 ≡ 0
  pub rest : drop named_numbers w' ≡ drop named_numbers w

-- What is given back of a work table: cleared where the lengths were right, and else as it was.
pub data Returned : Bool → List ℕ → List ℕ → Type 0 where
  kept : {w : List ℕ} → Returned false w w
  cleared : {w w' : List ℕ} → Cleared w w' → Returned true w w'
