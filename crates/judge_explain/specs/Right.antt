-- Whether the right field of an explain stands at a place of the report.
-- Assumes nothing.
use Rattle.std.specs.Prelude.{ℕ, ◌*◌, ◌≤◌, ◌≡◌, Bool, true, List, length, Result}
use Rattle.meaning.specs.Reasons.{FirstAt, Reason}
use Rattle.job_field.specs.Items.{Moment, explain, records_of}
use Rattle.job_field.specs.Reading.{head_in, items_in, matter_in}
use Rattle.job_field.specs.Standing.{Job}
use Rattle.table.specs.Map.{records_in, Within}
use Rattle.table.specs.Places.{scratch}
use Rattle.report.specs.Report.{numbers, field}
use Rattle.report_read.specs.Read.{Holds}
use Rattle.moment.specs.declared.Question.{Question}
use Rattle.moment.specs.Posed.{head_asked, Posed}
use Rattle.answer_ask.specs.Right.{RightAt}
use Rattle.judge_sheets.specs.Passing.{PassedAt}
use Rattle.profile.specs.Rules.{Rules}

-- A field of kind 84 with a reason for the question's tags, by the records that the table holds.
pub data BecauseField (w : List ℕ) (q : Question) : List ℕ → Type 0 where
  of : {L : List ℕ} → Reason q.size (records_in q.len w) q.before q.s.0 q.t.0 L → BecauseField w q (field 132 (numbers L))

-- A test that is right where it says A, and writes only where a reason is looked for.
pub record Assuring (A : Type 0) (w w' : List ℕ) (answer : Bool) : Type 0 where
  pub kept : Within scratch w w'
  pub sure : answer ≡ true → A

-- A field of a reason was looked for.
pub record Grounded (w w' report : List ℕ) (at : ℕ) (q : Question) (answer : Result ℕ ℕ) : Type 0 where
  pub kept : Within scratch w w'
  pub right : RightAt (BecauseField w q) report at answer

-- The job is accepted, and the table holds its records.
pub record Explaining (job w : List ℕ) (q : Question) : Type 0 where
  pub stands : Job job (head_in job) (items_in job)
  pub head : head_in job ≡ head_asked q
  pub records : records_in q.len w ≡ records_of (items_in job)
  pub posed : Posed w q

-- An explain was looked at, at the moment with so many records before it.
pub record Explained (R : Rules) (job report w w' : List ℕ) (at : ℕ) (q : Question) (answer : Result ℕ ℕ) : Type 0 where
  pub kept : Within scratch w w'
  pub right : (b : Moment) → b.records ≡ q.before → PassedAt R (matter_in job) b (explain q.s.0 q.t.0) report at answer

-- So many bytes at the place are the numbers of a reason.
pub record Reasoned (w report : List ℕ) (at bytes : ℕ) (q : Question) : Type 0 where
  pub list : List ℕ
  pub all : 2 * length list ≡ bytes
  pub stand : Holds report at (numbers list)
  pub reason : Reason q.size (records_in q.len w) q.before q.s.0 q.t.0 list

-- Where the first k is at hand and not above the records before the question.
pub record Known (w : List ℕ) (q : Question) (k : ℕ) : Type 0 where
  pub posed : Posed w q
  pub early : k ≤ q.before
  pub first : FirstAt (records_in q.len w) q.s.0 q.t.0 k
