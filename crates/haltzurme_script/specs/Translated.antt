-- DEFINITIONS, to be read against document 02, No. 4: what the call answers to a script, and what it leaves in the room and in both tables, for every script, room and
-- table. "The caller lends 46,510 bytes for the job, and the tables; they end as 01's room and tables do." The cases stand in the order in which the checks run.
-- Assumes nothing.
use Rattle.std.specs.Prelude.{ℕ, ◌≤◌, ◌<◌, Bool, true, false, List, length}
use Rattle.meaning.specs.Limits.{named_places}
use Rattle.records.specs.declared.Record.{Record}
use Rattle.call_look.specs.Lent.{Emptied}
use Rattle.script_call.specs.Translating.{longest_script, Converted, Enough, Narrow}

-- The call on a script, a room, a record table and a work table answers whether the lengths were right, a number, a place and a length, and leaves a room and two tables.
pub data Translated (script room : List ℕ) (records : List Record) (work : List ℕ) : Bool → ℕ → ℕ → ℕ → List ℕ → List Record → List ℕ → Type 0 where
  -- 1: "a script above 60,000 bytes", at place 0. Nothing lent has changed.
  long : longest_script < length script → Translated script room records work false 1 0 0 room records work
  -- 2: "a shorter loan or tables", at place 0. Nothing lent has changed.
  narrow : length script ≤ longest_script → Narrow room (length records) work → Translated script room records work false 2 0 0 room records work
  -- 14, 15 and 16: the reading refuses the script, and the room is as it was; or 0, and the job stands at the front of the room. The named places of both tables are zero
  -- and the rest is as it was.
  read : {n p l : ℕ} {room' : List ℕ} {records' : List Record} {work' : List ℕ} → Enough script room work → named_places ≤ length records → Converted script room n p l room'
      → Emptied records work records' work' → Translated script room records work true n p l room' records' work'
