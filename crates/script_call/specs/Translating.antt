-- DEFINITIONS, to be read against document 02, No. 4: "The caller lends 46,510 bytes for the job, and the tables; they end as 01's room and tables do. Refusals: 1 for
-- a script above 60,000 bytes and 2 for a shorter loan or tables, both at place 0; 14 .. 15 .. 16". What a script becomes, for every script, room and work table, and a
-- record table of so many places. Assumes nothing.
use Rattle.std.specs.Prelude.{ℕ, ◌≤◌, ◌<◌, ◌≡◌, ◌⊎◌, Bool, true, false, List, ◌++◌, length, drop}
use Rattle.meaning.specs.Limits.{named_numbers, named_places}
use Rattle.table_labels.specs.Parts.{Fills}
use Rattle.call_look.specs.Clear.{Cleared}
use Rattle.script_terms.specs.Terms.{Command}
use Rattle.script_meaning.specs.Reading.{fault, got, reading}
use Rattle.script_meaning.specs.Bytes.{job_of}

-- "a script above 60,000 bytes"; "The caller lends 46,510 bytes for the job".
abbrev pub longest_script : ℕ
longest_script = 60000

abbrev pub job_room : ℕ
job_room = 46510

-- What the reading makes of a script and a room: a refusal, 14, 15 or 16, with its place, and the room is as it was; or 0 and the length of the job, which stands at the front of
-- the room, and every byte behind it is as it was.
pub data Converted (script room : List ℕ) : ℕ → ℕ → ℕ → List ℕ → Type 0 where
  unread : {n p : ℕ} → (14 ≤ n) × (n ≤ 16) → reading script ≡ fault n p → Converted script room n p 0 room
  done : {cs : List Command} → reading script ≡ got cs → Converted script room 0 0 (length (job_of cs)) (job_of cs ++ drop (length (job_of cs)) room)

-- Neither the script nor the room nor the work table is at fault by its length.
pub record Enough (script room work : List ℕ) : Type 0 where
  pub short : length script ≤ longest_script
  pub long : job_room ≤ length room
  pub numbers : named_numbers ≤ length work

-- "a shorter loan or tables".
abbrev pub Narrow : List ℕ → ℕ → List ℕ → Type 0
Narrow room places work = (length room < job_room) ⊎ ((places < named_places) ⊎ (length work < named_numbers))

-- The whole, in the order of the checks: 1; 2; what the reading makes of it, with the named places of the work table zero and its rest as it was. After 1 and 2 nothing
-- lent has changed.
pub data Rested (script room : List ℕ) (places : ℕ) (work : List ℕ) : Bool → ℕ → ℕ → ℕ → List ℕ → List ℕ → Type 0 where
  long : longest_script < length script → Rested script room places work false 1 0 0 room work
  narrow : length script ≤ longest_script → Narrow room places work → Rested script room places work false 2 0 0 room work
  read : {n p l : ℕ} {room' work' : List ℕ} → Enough script room work → named_places ≤ places → Converted script room n p l room' → Cleared work work'
      → Rested script room places work true n p l room' work'

-- What the steps promise.
pub record Filled (script room : List ℕ) (lent : Bool) (n p l : ℕ) (room' part' : List ℕ) : Type 0 where
  pub lent_is : lent ≡ true
  pub converted : Converted script room n p l room'
  pub zero : Fills part' 0

pub record Carried (script room work : List ℕ) (lent : Bool) (n p l : ℕ) (room' work' : List ℕ) : Type 0 where
  pub lent_is : lent ≡ true
  pub converted : Converted script room n p l room'
  pub cleared : Cleared work work'

-- What a caller that holds no record table is told: the same, with a table of as many places as are named.
pub record Answered (script room work : List ℕ) (n p l : ℕ) (room' work' : List ℕ) : Type 0 where
  pub lent : Bool
  pub rested : Rested script room named_places work lent n p l room' work'
