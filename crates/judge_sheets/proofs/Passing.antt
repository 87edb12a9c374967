-- A place that is right by a measure of one field is passed by it where the question has no reason; and a reason with what stands behind it is an answer, or goes
-- astray.
-- Assumes nothing.
use Prim.Native.Nat.{ℕ, ◌+◌}
use native.Mathlib.Omega.{arith}
use mathlib.Core.Path.{◌≡◌, sym, ◌∙◌, subst}
use mathlib.Core.List.{List}
use lib.ListN.{length, drop, length-append}
use Rattle.job_field.specs.Items.{Matter, Moment, Question}
use Rattle.job_field.specs.Reading.{matter_in}
use Rattle.report.specs.Report.{Filed}
use Rattle.report.specs.Fault.{Stands, stands}
use Rattle.report_read.specs.Read.{Holds}
use Rattle.report_read.proofs.Read.{holds-both}
use Rattle.std.specs.Prelude.{Result}
use Rattle.profile.specs.Rules.{Rules, Laws}
use Rattle.answer_ask.specs.Right as right
use Rattle.judge_sheets.specs.Passing.{PassedAt, to, astray, wrong}
use Rattle.judge_sheets.specs.Behind.{Filing, stood, missing}

pub reasonless : (R : Rules) {M : Matter} {b : Moment} {q : Question} {bs L : List ℕ} → ((K f : List ℕ) → R.Reasoned M b q K f → ⊥) → Stands (R.Reasoned M b q L) bs → ⊥
reasonless R n (stands r rest) = n _ _ r

pub lone-passed : {R : Rules} {M : Matter} {b : Moment} {q : Question} {report : List ℕ} {at : ℕ} {a : Result ℕ ℕ} → ((L f : List ℕ) → R.Reasoned M b q L f → ⊥) → right.RightAt (R.Answers M b q) report at a → PassedAt R M b q report at a
lone-passed n (right.to {f = f} x h e) = to x h e
lone-passed {R} n (right.wrong x e) = wrong x (λ L s. reasonless R n s) e

-- A reason stands at the place, and behind it what belongs there, or not.
pub reason-passed : {R : Rules} → Laws R → {job report : List ℕ} {b : Moment} {q : Question} {L f : List ℕ} {at end : ℕ} {a : Result ℕ ℕ} → R.Reasoned (matter_in job) b q L f → Holds report at f → end ≡ at + length f → Filing job report L end a → PassedAt R (matter_in job) b q report at a
reason-passed {R} l {job} {report} {b} {q} {L} {f} {at} {end} r h e (stood {g = g} {p = p} x k i) =
    to {p = p} (l.reasoned r x) (holds-both report at f g h (subst (λ (n : ℕ). Holds report n g) e k)) (omega (arith, length-append f g))
reason-passed {R} l {job} {report} {b} {q} {L} {f} {at} {end} r h e (missing {p = p} n i) = astray {p = p} r h (i ∙ e) (subst (λ (m : ℕ). Stands (Filed (matter_in job) L) (drop m report) → ⊥) (sym i) n)
