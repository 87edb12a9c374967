-- Whether a right field stands at a place of the report, and the right fields of an ask.
-- Assumes nothing.
use Rattle.std.specs.Prelude.{ℕ, ◌+◌, ◌≡◌, List, length, drop, Result, Ok, Err}
use Rattle.job_field.specs.Items.{ask}
use Rattle.table.specs.Map.{records_in, Within}
use Rattle.table.specs.Places.{scratch}
use Rattle.report.specs.Report.{Answers, tabled, after_records}
use Rattle.report.specs.Fault.{Stands}
use Rattle.report_read.specs.Read.{Holds}
use Rattle.moment.specs.declared.Question.{Question}
use Rattle.moment.specs.Posed.{head_asked}

-- A right field stands at the place and the next one behind it; or none does, and the place is at fault.
pub data RightAt (P : List ℕ → Type 0) (report : List ℕ) (at : ℕ) : Result ℕ ℕ → Type 0 where
  to : {f : List ℕ} {p : ℕ} → P f → Holds report at f → p ≡ at + length f → RightAt P report at (Ok p)
  wrong : {p : ℕ} → (Stands P (drop at report) → ⊥) → p ≡ at → RightAt P report at (Err p)

-- The right fields for an ask, by the records that the table holds.
abbrev pub AskAnswer : List ℕ → Question → List ℕ → Type 0
AskAnswer w q = Answers (tabled (head_asked q) (records_in q.len w)) (after_records q.before) (ask q.s.0 q.t.0)

-- An ask was looked at.
pub record Looked (w w' report : List ℕ) (at : ℕ) (q : Question) (answer : Result ℕ ℕ) : Type 0 where
  pub kept : Within scratch w w'
  pub right : RightAt (AskAnswer w q) report at answer
