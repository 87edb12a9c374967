-- `sheets_field::are_numbers` meets its contract. The loop's invariant: the numbers passed stand there; one that does not stand at its place decides.
-- Assumes nothing.
use borrow.Author.Rules.{rules}
use native.Mathlib.Omega.{arith}
use Prim.Native.Nat.{ℕ}
use mathlib.Core.Path.{◌≡◌, refl, subst}
use Rattle.table.specs.Map.{sheet_of, sheets_in}
use Rattle.report.specs.Report.{numbers}
use Rattle.report_read.specs.Read.{Holds}
use Rattle.meaning.proofs.Tests.{is-not, true-or-false}
use Rattle.report_numbers.proofs.Listing.{list-held-none, list-held-more, list-held-at}
use Rattle.sheets_field.proofs.are_numbers.Goals as goal

pub loop-i-init : goal.loop-i-init
loop-i-init c = let a = c.args in list-held-none a.report.now a.at (sheet_of a.work.now)

pub loop-i-preserved : goal.loop-i-preserved
loop-i-preserved c =
    let a = c.args in
    let l = c.loop-i in
    list-held-more a.report.now a.at (sheet_of a.work.now) l.i l.invariant (c.is_sheet.ensures.0 c.if-not-is_sheet.false)

pub returns : goal.returns
returns c =
    let a = c.args in
    let l = c.loop-i in
    let e : l.i ≡ a.count = omega arith in
    (λ t. subst (λ (n : ℕ). Holds a.report.now a.at (numbers (sheets_in n a.work.now))) e l.invariant, λ h. refl)

pub returns-then-not-is_sheet : goal.returns-then-not-is_sheet
returns-then-not-is_sheet c =
    let a = c.args in
    let l = c.loop-i in
    is-not (λ h. true-or-false (c.is_sheet.ensures.1 (list-held-at a.report.now a.at (sheet_of a.work.now) a.count l.i (omega arith) h)) c.if-not-is_sheet.true)
