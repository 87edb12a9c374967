-- `report_read::is_pair` meets its contract: the field is its kind, the length 4 and the two numbers, and each is compared.
-- Assumes nothing.
use Prim.Native.Nat.{◌+◌, ◌≤◌}
use native.Mathlib.Omega.{arith}
use mathlib.Core.Path.{◌≡◌}
use mathlib.Core.List.{[], ◌∷◌}
use lib.ListN.{length}
use Rattle.report.specs.Report.{numbers}
use Rattle.report.proofs.Bytes.{length-numbers}
use Rattle.meaning.proofs.Tests.{is-not, is-so}
use Rattle.report_read.proofs.Read.{number-held, front-kind, field-body, field_room, pair-first, pair_size, pair-last, holds-pair-field}
use Rattle.report_read.proofs.is_pair.Goals as goal

pub returns-then-report-at-lt7 : goal.returns-then-report-at-lt7
returns-then-report-at-lt7 c = let a = c.args in let r = a.report.now in let l : a.at ≤ length r = c.requires in is-not (λ h. omega (arith, field_room r a.at a.kind (numbers (a.a ∷ a.b ∷ [])) l h, length-numbers (a.a ∷ a.b ∷ [])))

pub returns-then-report-at : goal.returns-then-report-at
returns-then-report-at c = let a = c.args in let r = a.report.now in let l : a.at ≤ length r = c.requires in is-not (λ h. c.if-report-at.true (front-kind r a.at a.kind (numbers (a.a ∷ a.b ∷ [])) (omega arith) h))

pub returns-then-number_in-ne4 : goal.returns-then-number_in-ne4
returns-then-number_in-ne4 c = let a = c.args in let r = a.report.now in let l : a.at ≤ length r = c.requires in is-not (λ h. c.if-number_in-ne4.true (number-held r (a.at + 1) c.number_in.result 4 c.number_in.ensures (pair_size r a.at a.kind a.a a.b h)))

pub returns-then-number_in-a : goal.returns-then-number_in-a
returns-then-number_in-a c = let a = c.args in let r = a.report.now in let l : a.at ≤ length r = c.requires in is-not (λ h. c.if-number_in-a.true (number-held r (a.at + 3) c.number_in-2.result a.a c.number_in-2.ensures (pair-first r (a.at + 3) a.a a.b (field-body r a.at a.kind (numbers (a.a ∷ a.b ∷ [])) h))))

pub returns : goal.returns
returns c =
    let a = c.args in let r = a.report.now in let l : a.at ≤ length r = c.requires in
    let size : c.number_in.result ≡ 4 = c.if-number_in-ne4.false in
    let first : c.number_in-2.result ≡ a.a = c.if-number_in-a.false in
    is-so c.number_in-3.result a.b
    (λ e. holds-pair-field r a.at a.kind a.a a.b (omega arith) c.if-report-at.false (rw size at c.number_in.ensures) (rw first at c.number_in-2.ensures) (rw e at c.number_in-3.ensures))
    (λ h. number-held r (a.at + 5) c.number_in-3.result a.b c.number_in-3.ensures (pair-last r a.at a.kind a.a a.b h))
