-- The part of a run that has no record table in sight: it begins once the job's records stand in the columns of the work table, and ends
-- with the report in the room and the work table given back. Document 01, "What is lent, and each refusal".
-- Assumes nothing.
use Rattle.std.specs.Prelude.{ℕ, ◌≤◌, ◌<◌, ◌≡◌, true, false, List, ◌++◌, length, drop}
use Rattle.job_field.specs.Items.{Head, Item, start, matter_of, refused, accepted, needed_room}
use Rattle.job_field.specs.Reading.{reading}
use Rattle.report.specs.Report.{Sound}
use Rattle.call_look.specs.Seen.{Seen}
use Rattle.call_look.specs.Look.{faulty}
use Rattle.call_look.specs.Clear.{Cleared}

-- What was seen, with number 9 where a room of so many bytes is smaller than needed.
pub data Fitted (s : Seen) (room : ℕ) : Seen → Type 0 where
  cramped : room < s.needed → Fitted s room (faulty 9 0)
  roomy : s.needed ≤ room → Fitted s room s

-- What the rest of the run answers, and what it leaves in the room and the work table. A refusal for lengths alone changes nothing; the other
-- cases are those of `Ran` behind 1 and 2.
pub data Finished (job room work : List ℕ) (s : Seen) : ℕ → ℕ → ℕ → List ℕ → List ℕ → Type 0 where
  declined : s.lent ≡ false → Finished job room work s s.number s.place 0 room work
  unread : {n p : ℕ} {work' : List ℕ} → s.lent ≡ true → reading job ≡ refused n p → Cleared work work' → Finished job room work s n p 0 room work'
  cramped : {H : Head} {items : List Item} {work' : List ℕ} → s.lent ≡ true → reading job ≡ accepted H items → length room < needed_room H start items → Cleared work work' → Finished job room work s 9 0 0 room work'
  done : {H : Head} {items : List Item} {bs work' : List ℕ} → s.lent ≡ true → reading job ≡ accepted H items → needed_room H start items ≤ length room → Sound (matter_of H items) start items bs → Cleared work work'
      → Finished job room work s 0 0 (length bs) (bs ++ drop (length bs) room) work'
