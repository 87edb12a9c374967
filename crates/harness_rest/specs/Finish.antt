-- The part of a harness run that has no record table in sight: it begins once the job's records stand in the columns of the work table, and ends
-- with the report in the room and the work table given back. Document 01, "What is lent, and each refusal".
-- Assumes nothing.
use Rattle.std.specs.Prelude.{ℕ, ◌≤◌, ◌<◌, ◌≡◌, true, false, List, ◌++◌, length, drop}
use Rattle.job_field.specs.Items.{Head, Item, start, matter_of, refused, accepted, needed_room}
use Rattle.harness_read.specs.Profile.{harness_reading}
use Rattle.harness_report.specs.Report.{HarnessSound}
use Rattle.call_look.specs.Seen.{Seen}
use Rattle.call_look.specs.Clear.{Cleared}

-- What the rest of the run answers, and what it leaves in the room and the work table. A refusal for lengths alone changes nothing; the other
-- cases are those of the harness run behind 1 and 2.
pub data Finished (job room work : List ℕ) (s : Seen) : ℕ → ℕ → ℕ → List ℕ → List ℕ → Type 0 where
  declined : s.lent ≡ false → Finished job room work s s.number s.place 0 room work
  unread : {n p : ℕ} {work' : List ℕ} → s.lent ≡ true → harness_reading job ≡ refused n p → Cleared work work' → Finished job room work s n p 0 room work'
  cramped : {H : Head} {items : List Item} {work' : List ℕ} → s.lent ≡ true → harness_reading job ≡ accepted H items → length room < needed_room H start items → Cleared work work' → Finished job room work s 9 0 0 room work'
  done : {H : Head} {items : List Item} {bs work' : List ℕ} → s.lent ≡ true → harness_reading job ≡ accepted H items → needed_room H start items ≤ length room → HarnessSound (matter_of H items) start items bs → Cleared work work'
      → Finished job room work s 0 0 (length bs) (bs ++ drop (length bs) room) work'
