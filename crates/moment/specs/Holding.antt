-- What a function that goes through the joins asks of the table: it holds the past of some records, with so many joins or more. And which joins are marked: these are taken
-- into a reason.
-- Assumes nothing.
use Rattle.std.specs.Prelude.{ℕ, ◌≤◌, Bool, List, eqb}
use Rattle.table.specs.Map.{mark_of}
use Rattle.table.specs.Past.{Past}

-- The table holds the past of some records, with `limit` joins or more.
pub record Holds (w : List ℕ) (limit : ℕ) : Type 0 where
  pub tags : ℕ
  pub len : ℕ
  pub joins : ℕ
  pub past : Past tags len w joins
  pub reach : limit ≤ joins

-- The join of age a is taken into the reason.
abbrev pub marked : List ℕ → ℕ → Bool
marked w a = eqb (mark_of w a) 1
