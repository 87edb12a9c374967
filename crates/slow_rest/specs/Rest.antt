-- The part of the simulator's call that has no record table in sight: it begins once the job's records stand in the columns of the work table, and ends with the
-- leaders in the room and the work table given back. Document 02, No. 12.
-- Assumes nothing.
use Rattle.std.specs.Prelude.{ℕ, ◌*◌, ◌≤◌, ◌<◌, ◌≡◌, Bool, true, false, List, ◌++◌, length, drop}
use Rattle.job_field.specs.Items.{Head, Item, refused, accepted, records_of}
use Rattle.job_field.specs.Reading.{reading}
use Rattle.report.specs.Report.{numbers}
use Rattle.call_look.specs.Seen.{Seen}
use Rattle.call_look.specs.Look.{faulty}
use Rattle.call_look.specs.Clear.{Cleared}
use Rattle.slow_passes.specs.Passes.{Told}

-- What was seen, with number 9 where a room of so many bytes is below 2N.
pub data Fitted (s : Seen) (room : ℕ) : Seen → Type 0 where
  cramped : room < 2 * s.size → Fitted s room (faulty 9 0)
  roomy : 2 * s.size ≤ room → Fitted s room s

-- What the rest of the call answers, and what it leaves in the room and the work table. A refusal for lengths alone changes nothing; the other cases are those of `Counted`
-- behind 1 and 2.
pub data Rested (job room work : List ℕ) (s : Seen) (limit : ℕ) (watch : Bool) : ℕ → ℕ → ℕ → List ℕ → List ℕ → Type 0 where
  declined : s.lent ≡ false → Rested job room work s limit watch s.number s.place 0 room work
  unread : {n p : ℕ} {work' : List ℕ} → s.lent ≡ true → reading job ≡ refused n p → Cleared work work' → Rested job room work s limit watch n p 0 room work'
  cramped : {H : Head} {items : List Item} {work' : List ℕ} → s.lent ≡ true → reading job ≡ accepted H items → length room < 2 * H.size → Cleared work work' → Rested job room work s limit watch 9 0 0 room work'
  answered : {H : Head} {items : List Item} {n c : ℕ} {L work' : List ℕ} → s.lent ≡ true → reading job ≡ accepted H items → 2 * H.size ≤ length room
      → Told H.size H.units (records_of items) limit watch n c L → Cleared work work' → Rested job room work s limit watch n 0 c (numbers L ++ drop (length (numbers L)) room) work'
