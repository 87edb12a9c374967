-- When two tags came together, read off the links of the table. Document 01, "Reasons": the first k such that equality follows.
-- Assumes nothing.
use Rattle.std.specs.Prelude.{ℕ, suc, ◌≤◌, ◌<◌, ◌≡◌, ◌≢◌, List, Option, Some, None}
use Rattle.meaning.specs.Forest.{root, Links}
use Rattle.meaning.specs.Limits.{most_tags}
use Rattle.table.specs.Map.{parent_of, age_of}
use Rattle.table.specs.Places.{Large}

-- The leader of x by the links older than age a.
abbrev pub leader_at : List ℕ → ℕ → ℕ → ℕ
leader_at w a x = root (parent_of w) (age_of w) a x

-- The links of the table lead down and grow younger.
pub record Forested (w : List ℕ) : Type 0 where
  pub long : Large w
  pub links : Links (parent_of w) (age_of w) most_tags most_tags

-- b is the age of the newest join between s and t: with it they have one leader, and by older joins alone they have two. It is 1,000
-- where no join of the table brought them together.
pub record Met (w : List ℕ) (s t b : ℕ) : Type 0 where
  pub most : b ≤ most_tags
  pub joined : b < most_tags → leader_at w (suc b) s ≡ leader_at w (suc b) t
  pub apart : (a : ℕ) → a ≤ b → leader_at w a s ≢ leader_at w a t

-- What is answered of s and t: that age, or none where it is 1,000.
abbrev pub MetAs : List ℕ → ℕ → ℕ → Option ℕ → Type 0
MetAs w s t (Some b) = Met w s t b × (b < most_tags)
MetAs w s t None = Met w s t most_tags
