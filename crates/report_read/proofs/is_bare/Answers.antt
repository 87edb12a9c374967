-- `report_read::is_bare` meets its contract: the field is its kind and the length 0, and each is compared.
-- Assumes nothing.
use Prim.Native.Nat.{ℕ, ◌+◌, ◌≤◌}
use native.Mathlib.Omega.{arith}
use mathlib.Core.Path.{subst}
use mathlib.Core.List.{[]}
use lib.ListN.{length}
use Rattle.report.specs.Report.{field}
use Rattle.report_read.specs.Read.{Holds}
use Rattle.meaning.proofs.Tests.{is-not, is-so}
use Rattle.report_read.proofs.Read.{holds-none, holds-field, number-held, front-kind, front-size, field_room}
use Rattle.report_read.proofs.is_bare.Goals as goal

pub returns-then-report-at-lt3 : goal.returns-then-report-at-lt3
returns-then-report-at-lt3 c = let a = c.args in let r = a.report.now in let l : a.at ≤ length r = c.requires in is-not (λ h. omega (arith, field_room r a.at a.kind [] l h))

pub returns-then-report-at : goal.returns-then-report-at
returns-then-report-at c = let a = c.args in let r = a.report.now in let l : a.at ≤ length r = c.requires in is-not (λ h. c.if-report-at.true (front-kind r a.at a.kind [] (omega arith) h))

pub returns : goal.returns
returns c =
    let a = c.args in let r = a.report.now in let l : a.at ≤ length r = c.requires in
    is-so c.number_in.result 0
    (λ e. subst (λ (k : ℕ). Holds r a.at (field k [])) c.if-report-at.false (holds-field r a.at [] (omega arith) (rw e at c.number_in.ensures) (holds-none r (a.at + 3))))
    (λ h. number-held r (a.at + 1) c.number_in.result 0 c.number_in.ensures (front-size r a.at a.kind [] h))
