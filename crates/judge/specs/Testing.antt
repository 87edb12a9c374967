-- A question's field of the report, tested.
-- Assumes nothing.
use Rattle.std.specs.Prelude.{ℕ, ◌≤◌, List, length, ◌≡◌, Result}
use Rattle.job_field.specs.Items.{Head, Moment, Question, tags_of_question}
use Rattle.job_field.specs.Reading.{matter_in}
use Rattle.job_field.specs.Standing.{Below}
use Rattle.table.specs.Map.{Within}
use Rattle.table.specs.Places.{scratch}
use Rattle.pairs.specs.Breaking.{Breaking}
use Rattle.profile.specs.Rules.{Rules}
use Rattle.judge_sheets.specs.Passing.{PassedAt}

-- The table holds what the question is about and keeps the pairs before it, and the place lies in the report.
pub record Testing (job report w : List ℕ) (H : Head) (len joins before differs place : ℕ) (q : Question) : Type 0 where
  pub breaking : Breaking job w H len joins before differs
  pub tags : Below H.size (tags_of_question q)
  pub within : place ≤ length report

-- At the moment with so many records and so many pairs before it the right answer stands there, or a right reason without its sheets, or neither, by the rules of the
-- profile; and only where reasons are looked for has the table changed.
pub record Tested (R : Rules) (job report w w' : List ℕ) (before differs place : ℕ) (q : Question) (answer : Result ℕ ℕ) : Type 0 where
  pub kept : Within scratch w w'
  pub right : (b : Moment) → b.records ≡ before → b.differs ≡ differs → PassedAt R (matter_in job) b q report place answer
