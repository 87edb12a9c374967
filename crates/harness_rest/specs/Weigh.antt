-- The part of a harness recheck that has no record table in sight: it begins once the job's records stand in the columns of the work table, and ends
-- with the answer and the work table cleared. Document 01, "What is lent, and each refusal".
-- Assumes nothing.
use Rattle.std.specs.Prelude.{ℕ, ◌≡◌, true, false, List}
use Rattle.job_field.specs.Items.{Head, Item, start, matter_of, refused, accepted}
use Rattle.harness_read.specs.Profile.{harness_reading}
use Rattle.harness_report.specs.Report.{HarnessSound}
use Rattle.harness_report.specs.Fault.{HarnessFault}
use Rattle.call_look.specs.Seen.{Seen}
use Rattle.call_look.specs.Clear.{Cleared}

-- What it answers, and what it leaves in the work table. A refusal for lengths alone changes nothing; the other cases are those of the harness recheck
-- behind 1 and 2.
pub data Weighed (job report work : List ℕ) (s : Seen) : ℕ → ℕ → List ℕ → Type 0 where
  declined : s.lent ≡ false → Weighed job report work s s.number s.place work
  unread : {n p : ℕ} {work' : List ℕ} → s.lent ≡ true → harness_reading job ≡ refused n p → Cleared work work' → Weighed job report work s n p work'
  unsound : {H : Head} {p : ℕ} {items : List Item} {work' : List ℕ} → s.lent ≡ true → harness_reading job ≡ accepted H items → HarnessFault (matter_of H items) start items 0 report p → Cleared work work' → Weighed job report work s 10 p work'
  sound : {H : Head} {items : List Item} {work' : List ℕ} → s.lent ≡ true → harness_reading job ≡ accepted H items → HarnessSound (matter_of H items) start items report → Cleared work work' → Weighed job report work s 0 0 work'
