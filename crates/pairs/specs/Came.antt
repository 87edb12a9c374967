-- When two tags became equal. Document 01, "Reasons": the first k such that equality follows.
-- Assumes nothing.
use Rattle.std.specs.Prelude.{ℕ, ◌≤◌, ◌<◌, List}
use Rattle.meaning.specs.Following.{Rec, Follows, UpTo}
use Rattle.meaning.specs.Reasons.{FirstAt}

-- The first k such that s and t are equal by records 1 to k, if it is not above R; one above R, if they are not equal by the first R.
pub record Came (rs : List Rec) (R s t k : ℕ) : Type 0 where
  pub then : k ≤ R → FirstAt rs s t k
  pub never : R < k → Follows (UpTo rs R) s t → ⊥
