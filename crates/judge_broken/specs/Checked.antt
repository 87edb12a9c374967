-- Whether the right field of a 06 stands at a place of the report.
-- Assumes nothing.
use Rattle.std.specs.Prelude.{ℕ, ◌+◌, ◌*◌, ◌≡◌, List, [], ◌∷◌, length, Result}
use Rattle.meaning.specs.Reasons.{Reason}
use Rattle.job_field.specs.Items.{Moment, broken}
use Rattle.job_field.specs.Reading.{matter_in}
use Rattle.table.specs.Map.{records_in, Within}
use Rattle.table.specs.Places.{scratch}
use Rattle.report.specs.Report.{numbers, field}
use Rattle.report_read.specs.Read.{Holds}
use Rattle.moment.specs.declared.Question.{Question}
use Rattle.answer_ask.specs.Right.{RightAt}
use Rattle.judge_sheets.specs.Passing.{PassedAt}
use Rattle.profile.specs.Rules.{Rules}

-- So many bytes at the place are the number of a pair and the numbers of a reason.
pub record NumberedReason (w report : List ℕ) (at bytes : ℕ) (q : Question) (k : ℕ) : Type 0 where
  pub list : List ℕ
  pub all : 2 + 2 * length list ≡ bytes
  pub stand : Holds report at (numbers (k ∷ list))
  pub reason : Reason q.size (records_in q.len w) q.before q.s.0 q.t.0 list

-- A field of kind 86 with the number of a pair and a reason for the question's tags.
pub data BreachField (w : List ℕ) (q : Question) (k : ℕ) : List ℕ → Type 0 where
  of : {L : List ℕ} → Reason q.size (records_in q.len w) q.before q.s.0 q.t.0 L → BreachField w q k (field 134 (numbers (k ∷ L)))

-- A field of kind 87.
abbrev pub IntactField : List ℕ → Type 0
IntactField f = f ≡ field 135 []

pub record Breached (w w' report : List ℕ) (at : ℕ) (q : Question) (k : ℕ) (answer : Result ℕ ℕ) : Type 0 where
  pub kept : Within scratch w w'
  pub right : RightAt (BreachField w q k) report at answer

-- A 06 was looked at: at the moment with so many records and so many pairs before it a right field stands at the place, or none does.
pub record Checked (R : Rules) (job report w w' : List ℕ) (before differs at : ℕ) (answer : Result ℕ ℕ) : Type 0 where
  pub kept : Within scratch w w'
  pub right : (b : Moment) → b.records ≡ before → b.differs ≡ differs → PassedAt R (matter_in job) b broken report at answer
