-- MACHINERY for the proofs; no meaning rests on it. Following a reason through the log of joins: what a call leaves behind.
-- Assumes nothing.
use Rattle.std.specs.Prelude.{ℕ, Bool, List, T}
use Rattle.meaning.specs.Following.{Rec}
use Rattle.meaning.specs.Joins.{Join, Linked, Supported}

-- From the marks m to the marks m': nothing is unmarked, every marked one of the n joins rests on marked ones, and the marked ones of the first b joins
-- link s and t.
pub record Walked (rs : List Rec) (e : ℕ → Join) (n : ℕ) (m m' : ℕ → Bool) (b s t : ℕ) : Type 0 where
  pub more : (a : ℕ) → T (m a) → T (m' a)
  pub supported : Supported rs e m' n
  pub linked : Linked e m' b s t
