-- What a question's place in a report holds: its right answer, and then the place behind it; or the place that is at fault, where the sheets of a right reason should
-- stand, or the question's own; by the rules of the profile. Document 02, No. 9.
-- Assumes nothing.
use Rattle.std.specs.Prelude.{ℕ, ◌+◌, ◌≡◌, List, length, drop, Result, Ok, Err}
use Rattle.job_field.specs.Items.{Matter, Moment, Question}
use Rattle.report.specs.Report.{Filed}
use Rattle.report.specs.Fault.{Stands}
use Rattle.report_read.specs.Read.{Holds}
use Rattle.profile.specs.Rules.{Rules}

pub data PassedAt (R : Rules) (M : Matter) (b : Moment) (q : Question) (report : List ℕ) (at : ℕ) : Result ℕ ℕ → Type 0 where
  to : {f : List ℕ} {p : ℕ} → R.Answers M b q f → Holds report at f → p ≡ at + length f → PassedAt R M b q report at (Ok p)
  astray : {L f : List ℕ} {p : ℕ} → R.Reasoned M b q L f → Holds report at f → p ≡ at + length f → (Stands (Filed M L) (drop p report) → ⊥) → PassedAt R M b q report at (Err p)
  wrong : {p : ℕ} → (Stands (R.Answers M b q) (drop at report) → ⊥) → ((L : List ℕ) → Stands (R.Reasoned M b q L) (drop at report) → ⊥) → p ≡ at → PassedAt R M b q report at (Err p)
