-- DEFINITIONS, to be read against document 01, "What is lent, and each refusal", and document 02, No. 8: what a run of the harness profile answers, and what it leaves in the
-- room and in both tables, for every job, room and table. The cases stand in the order in which the checks run; number 4 is also that of kind 02 (`harness_reading`).
-- Assumes nothing.
use Rattle.std.specs.Prelude.{ℕ, ◌≤◌, ◌<◌, ◌≡◌, ◌⊎◌, List, ◌++◌, length, drop}
use Rattle.meaning.specs.Limits.{named_numbers, named_places}
use Rattle.job_field.specs.Items.{Head, Item, start, matter_of, refused, accepted, needed_room}
use Rattle.job_field.specs.Reading.{longest}
use Rattle.records.specs.declared.Record.{Record}
use Rattle.harness_read.specs.Profile.{harness_reading}
use Rattle.harness_report.specs.Report.{HarnessSound}
use Rattle.call_look.specs.Lent.{Lent, Emptied}

-- A run on a job, a room, a record table and a work table answers a number, a place and a length, and leaves a room and two tables.
pub data HarnessRan (job room : List ℕ) (records : List Record) (work : List ℕ) : ℕ → ℕ → ℕ → List ℕ → List Record → List ℕ → Type 0 where
  -- 1: the job is longer than the longest. Nothing lent has changed.
  long : longest job < length job → HarnessRan job room records work 1 0 0 room records work
  -- 2: either table is shorter than named. Nothing lent has changed.
  narrow : length job ≤ longest job → (length records < named_places) ⊎ (length work < named_numbers) → HarnessRan job room records work 2 0 0 room records work
  -- 3 to 8, 11 to 13 and 17: the reading refuses the job. The room is unchanged.
  unread : {n p : ℕ} {records' : List Record} {work' : List ℕ} → Lent job records work → harness_reading job ≡ refused n p → Emptied records work records' work'
      → HarnessRan job room records work n p 0 room records' work'
  -- 9: the room is smaller than needed. It is unchanged.
  cramped : {H : Head} {items : List Item} {records' : List Record} {work' : List ℕ} → Lent job records work → harness_reading job ≡ accepted H items → length room < needed_room H start items
      → Emptied records work records' work' → HarnessRan job room records work 9 0 0 room records' work'
  -- 0: a sound report stands at the front of the room, and every byte behind it is unchanged.
  done : {H : Head} {items : List Item} {bs : List ℕ} {records' : List Record} {work' : List ℕ} → Lent job records work → harness_reading job ≡ accepted H items
      → needed_room H start items ≤ length room → HarnessSound (matter_of H items) start items bs → Emptied records work records' work'
      → HarnessRan job room records work 0 0 (length bs) (bs ++ drop (length bs) room) records' work'
