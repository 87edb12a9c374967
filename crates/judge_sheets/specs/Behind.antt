-- The sheets behind a reason of a report. Document 02, No. 9.
-- Assumes nothing.
use Rattle.std.specs.Prelude.{ℕ, ◌+◌, ◌*◌, ◌≤◌, ◌≡◌, length, drop, Result, Ok, Err}
use mathlib.Core.List.{List, Memᴰ}
use Rattle.meaning.specs.Reasons.{Above}
use Rattle.job_field.specs.Items.{records_of}
use Rattle.job_field.specs.Reading.{head_in, items_in, matter_in}
use Rattle.job_field.specs.Standing.{Job}
use Rattle.table.specs.Map.{Within}
use Rattle.table.specs.Places.{Large, most_waiting, scratch}
use Rattle.report.specs.Report.{numbers, Filed}
use Rattle.report.specs.Fault.{Stands}
use Rattle.report_read.specs.Read.{Holds}

-- The numbers of a list stand in the report from a place up to another: rising numbers of the job's records.
pub record Behind (job report w : List ℕ) (from end : ℕ) : Type 0 where
  pub stands : Job job (head_in job) (items_in job)
  pub long : Large w
  pub list : List ℕ
  pub all : from + 2 * length list ≡ end
  pub holds : Holds report from (numbers list)
  pub within : end ≤ length report
  pub few : length list ≤ most_waiting
  pub rising : Above 0 list
  pub there : (k : ℕ) → Memᴰ k list → k ≤ length (records_of (items_in job))

-- What belongs behind a reason stands there, or does not, and that place is at fault.
pub data Filing (job report : List ℕ) (L : List ℕ) (end : ℕ) : Result ℕ ℕ → Type 0 where
  stood : {g : List ℕ} {p : ℕ} → Filed (matter_in job) L g → Holds report end g → p ≡ end + length g → Filing job report L end (Ok p)
  missing : {p : ℕ} → (Stands (Filed (matter_in job) L) (drop end report) → ⊥) → p ≡ end → Filing job report L end (Err p)

-- So for the list whose numbers stand from a place up to another; only where reasons are looked for has the table changed.
pub record Sheeted (job report w w' : List ℕ) (from end : ℕ) (answer : Result ℕ ℕ) : Type 0 where
  pub kept : Within scratch w w'
  pub right : (L : List ℕ) → from + 2 * length L ≡ end → Holds report from (numbers L) → Filing job report L end answer

-- The sheets were looked for where a reason was found; where none was, that is told as it was.
pub record Turned (job report w w' : List ℕ) (from : ℕ) (found answer : Result ℕ ℕ) : Type 0 where
  pub kept : Within scratch w w'
  pub none : (p : ℕ) → found ≡ Err p → answer ≡ Err p
  pub some : (end : ℕ) → found ≡ Ok end → (L : List ℕ) → from + 2 * length L ≡ end → Holds report from (numbers L) → Filing job report L end answer
