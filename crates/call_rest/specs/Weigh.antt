-- The part of a recheck that has no record table in sight: it begins once the job's records stand in the columns of the work table, and ends
-- with the answer and the work table cleared. Document 01, "What is lent, and each refusal".
-- Assumes nothing.
use Rattle.std.specs.Prelude.{ℕ, ◌≡◌, true, false, List, Result, Ok, Err}
use Rattle.job_field.specs.Items.{Head, Item, start, matter_of, refused, accepted}
use Rattle.job_field.specs.Reading.{reading}
use Rattle.report.specs.Report.{Sound}
use Rattle.report.specs.Fault.{FaultAt}
use Rattle.call_look.specs.declared.Reason.TheVariants.{ReportUnsound}
use Rattle.call_look.specs.declared.Refusal.{Refusal}
use Rattle.call_look.specs.Seen.{Seen}
use Rattle.call_look.specs.Clear.{Cleared}

-- What it answers, and what it leaves in the work table. A refusal for lengths alone changes nothing; the other cases are those of `Rechecked`
-- behind 1 and 2.
pub data Weighed (job report work : List ℕ) (s : Seen) : ℕ → ℕ → List ℕ → Type 0 where
  declined : s.lent ≡ false → Weighed job report work s s.number s.place work
  unread : {n p : ℕ} {work' : List ℕ} → s.lent ≡ true → reading job ≡ refused n p → Cleared work work' → Weighed job report work s n p work'
  unsound : {H : Head} {p : ℕ} {items : List Item} {work' : List ℕ} → s.lent ≡ true → reading job ≡ accepted H items → FaultAt (matter_of H items) start items 0 report p → Cleared work work' → Weighed job report work s 10 p work'
  sound : {H : Head} {items : List Item} {work' : List ℕ} → s.lent ≡ true → reading job ≡ accepted H items → Sound (matter_of H items) start items report → Cleared work work' → Weighed job report work s 0 0 work'

-- What a judgement of the report comes to: 0 where it is sound, and 10 at the first place at fault.
abbrev pub finding_of : Result (Unit {0}) ℕ → Result (Unit {0}) Refusal
finding_of (Ok u) = Ok u
finding_of (Err p) = Err (record { reason = ReportUnsound; place = p })
