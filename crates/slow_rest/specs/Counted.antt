-- DEFINITIONS, to be read against document 02, No. 12, and document 01, "What is lent, and each refusal": what the simulator's call answers, and what it leaves in the room
-- and in both tables, for every job, room, table and limit. The cases stand in the order in which the checks run.
-- Assumes nothing.
use Rattle.std.specs.Prelude.{ℕ, ◌*◌, ◌≤◌, ◌<◌, ◌≡◌, ◌⊎◌, Bool, List, ◌++◌, length, drop}
use Rattle.meaning.specs.Limits.{named_numbers, named_places}
use Rattle.job_field.specs.Items.{Head, Item, refused, accepted, records_of}
use Rattle.job_field.specs.Reading.{reading, longest}
use Rattle.records.specs.declared.Record.{Record}
use Rattle.report.specs.Report.{numbers}
use Rattle.call_look.specs.Lent.{Lent, Emptied}
use Rattle.slow_passes.specs.Passes.{Told}

-- A call on a job, a room, a record table, a work table, a limit, and whether it is one to watch with, answers a number, a place and a count, and leaves a room and two tables.
pub data Counted (job room : List ℕ) (records : List Record) (work : List ℕ) (limit : ℕ) (watch : Bool) : ℕ → ℕ → ℕ → List ℕ → List Record → List ℕ → Type 0 where
  -- 1: the job is longer than the longest. Nothing lent has changed.
  long : longest job < length job → Counted job room records work limit watch 1 0 0 room records work
  -- 2: either table is shorter than named. Nothing lent has changed.
  narrow : length job ≤ longest job → (length records < named_places) ⊎ (length work < named_numbers) → Counted job room records work limit watch 2 0 0 room records work
  -- 3 to 8 and 11 to 13: the reading refuses the job. The room is unchanged.
  unread : {n p : ℕ} {records' : List Record} {work' : List ℕ} → Lent job records work → reading job ≡ refused n p → Emptied records work records' work'
      → Counted job room records work limit watch n p 0 room records' work'
  -- "Refusals after 8: 9 if the room is below 2N bytes". It is unchanged.
  cramped : {H : Head} {items : List Item} {records' : List Record} {work' : List ℕ} → Lent job records work → reading job ≡ accepted H items → length room < 2 * H.size
      → Emptied records work records' work' → Counted job room records work limit watch 9 0 0 room records' work'
  -- "Then 19, place 0, exactly when the count is above the limit"; else 0 and the count, "with the leader of every tag in order at the front of the report room". `Told` has both,
  -- with no leaders where it is 19, so that the room is unchanged there; every byte behind the leaders is unchanged. One who watches is told the leaders after so many passes as the
  -- limit says.
  answered : {H : Head} {items : List Item} {n c : ℕ} {L : List ℕ} {records' : List Record} {work' : List ℕ} → Lent job records work → reading job ≡ accepted H items
      → 2 * H.size ≤ length room → Told H.size H.units (records_of items) limit watch n c L → Emptied records work records' work'
      → Counted job room records work limit watch n 0 c (numbers L ++ drop (length (numbers L)) room) records' work'
