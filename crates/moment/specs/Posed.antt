-- A question at its moment, and what a test of it answers.
-- Assumes nothing.
use Rattle.std.specs.Prelude.{ℕ, ◌≤◌, ◌<◌, ◌≡◌, ◌↔◌, Bool, true, List}
use Rattle.job_field.specs.Items.{Head}
use Rattle.table.specs.Map.{Within}
use Rattle.table.specs.Past.{Past}
use Rattle.table.specs.Places.{scratch}
use Rattle.moment.specs.declared.Closed.{Closed}
use Rattle.moment.specs.declared.Question.{Question}

-- What the first field of the job said, as the code holds it.
abbrev pub head_of : Closed → Head
head_of c = record { size = c.size; units = c.unit; sheeted = c.sheeted }

abbrev pub head_asked : Question → Head
head_asked q = record { size = q.size; units = q.unit; sheeted = q.sheeted }

-- The table holds what the question is about: N tags, all records with their joins, and the records before it among them.
pub record Posed (w : List ℕ) (q : Question) : Type 0 where
  pub past : Past q.size q.len w q.joins
  pub units : q.unit ≤ q.size
  pub early : q.before ≤ q.len
  pub from : q.s.0 < q.size
  pub to : q.t.0 < q.size

-- A test that is exact for A and writes only where a reason is looked for.
pub record Deciding (A : Type 0) (w w' : List ℕ) (answer : Bool) : Type 0 where
  pub kept : Within scratch w w'
  pub exact : (answer ≡ true) ↔ A
