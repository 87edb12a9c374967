-- DEFINITIONS, to be read against document 01, "What is lent, and each refusal", and document 02, No. 8, "Its recheck uses this rule": what a recheck of the harness profile
-- answers, and what it leaves in both tables, for every job, report and table. The report is lent to be read, and nothing in it changes.
-- Assumes nothing.
use Rattle.std.specs.Prelude.{ℕ, ◌≤◌, ◌<◌, ◌≡◌, ◌⊎◌, List, length}
use Rattle.meaning.specs.Limits.{named_numbers, named_places}
use Rattle.job_field.specs.Items.{Head, Item, start, matter_of, refused, accepted}
use Rattle.job_field.specs.Reading.{longest}
use Rattle.records.specs.declared.Record.{Record}
use Rattle.harness_read.specs.Profile.{harness_reading}
use Rattle.harness_report.specs.Report.{HarnessSound}
use Rattle.harness_report.specs.Fault.{HarnessFault}
use Rattle.call_look.specs.Lent.{Lent, Emptied}

-- A recheck on a job, a report, a record table and a work table answers a number and a place, and leaves two tables.
pub data HarnessRechecked (job report : List ℕ) (records : List Record) (work : List ℕ) : ℕ → ℕ → List Record → List ℕ → Type 0 where
  -- 1: the job is longer than the longest. Nothing lent has changed.
  long : longest job < length job → HarnessRechecked job report records work 1 0 records work
  -- 2: either table is shorter than named. Nothing lent has changed.
  narrow : length job ≤ longest job → (length records < named_places) ⊎ (length work < named_numbers) → HarnessRechecked job report records work 2 0 records work
  -- 3 to 8, 11 to 13 and 17: the reading refuses the job.
  unread : {n p : ℕ} {records' : List Record} {work' : List ℕ} → Lent job records work → harness_reading job ≡ refused n p → Emptied records work records' work'
      → HarnessRechecked job report records work n p records' work'
  -- 10: the report is unsound, at the first byte of the first field at fault.
  unsound : {H : Head} {p : ℕ} {items : List Item} {records' : List Record} {work' : List ℕ} → Lent job records work → harness_reading job ≡ accepted H items
      → HarnessFault (matter_of H items) start items 0 report p → Emptied records work records' work' → HarnessRechecked job report records work 10 p records' work'
  -- 0: the report is sound.
  sound : {H : Head} {items : List Item} {records' : List Record} {work' : List ℕ} → Lent job records work → harness_reading job ≡ accepted H items → HarnessSound (matter_of H items) start items report
      → Emptied records work records' work' → HarnessRechecked job report records work 0 0 records' work'
