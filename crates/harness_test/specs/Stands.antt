-- MACHINERY for the proofs; no meaning rests on it. Whether the right field of an explain, or of a 06, stands at a place of the report: there is one, and it stands there or
-- not. Assumes nothing.
use Rattle.std.specs.Prelude.{ℕ, ◌≤◌, ◌<◌, ◌≡◌, List, ◌∷◌, length, Result}
use Rattle.meaning.specs.Following.{Follows, UpTo}
use Rattle.job_field.specs.Items.{Head, Moment, Question, records_of}
use Rattle.job_field.specs.Reading.{head_in, items_in, matter_in}
use Rattle.job_field.specs.Standing.{Job}
use Rattle.table.specs.Map.{records_in, Within}
use Rattle.table.specs.Past.{Past}
use Rattle.table.specs.Places.{scratch}
use Rattle.report.specs.Report.{numbers, field}
use Rattle.report_read.specs.Read.{Holds}
use Rattle.harness_meaning.specs.Harness.{Harness}
use Rattle.harness_report.specs.Report.{HarnessReasoned}
use Rattle.harness_test.specs.Rules.{harness_rules}
use Rattle.judge_sheets.specs.Passing.{PassedAt}

-- The one right field.
abbrev pub IsField : List ℕ → List ℕ → Type 0
IsField g f = f ≡ g

-- A whole field of a kind and so many bytes of body stands at a place.
pub record FieldAt (report : List ℕ) (at kind size : ℕ) : Type 0 where
  pub body : List ℕ
  pub long : length body ≡ size
  pub holds : Holds report at (field kind body)

-- The tags of a pair are equal by the records before the question.
pub record Broke (job w : List ℕ) (H : Head) (len joins before s t : ℕ) : Type 0 where
  pub stands : Job job (head_in job) (items_in job)
  pub head : head_in job ≡ H
  pub early : before ≤ length (records_of (items_in job))
  pub past : Past H.size len w joins
  pub passed : before ≤ len
  pub from : s < H.size
  pub to : t < H.size
  pub equal : Follows (UpTo (records_in len w) before) s t

-- The field of pair number k with the reason for its tags was looked for: that is told for every question that has such a reason.
pub record Breached (job report w w' : List ℕ) (at N len before k s t : ℕ) (answer : Result ℕ ℕ) : Type 0 where
  pub kept : Within scratch w w'
  pub right : (b : Moment) (q : Question) → ((L : List ℕ) → Harness N (records_in len w) before s t L → HarnessReasoned (matter_in job) b q L (field 134 (numbers (k ∷ L)))) → PassedAt harness_rules (matter_in job) b q report at answer
