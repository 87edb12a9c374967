-- `sheets_field::is_field` meets its contract: the field is its kind, the length of so many numbers and these numbers, and each is compared.
-- Assumes nothing.
use Prim.Native.Nat.{◌+◌, ◌*◌, ◌≤◌}
use native.Mathlib.Omega.{arith}
use mathlib.Core.Path.{◌≡◌}
use lib.ListN.{length}
use Rattle.table.specs.Map.{sheet_of, sheets_in}
use Rattle.report.specs.Report.{numbers}
use Rattle.meaning.proofs.Tests.{is-not}
use Rattle.report_numbers.proofs.Written.{length-list}
use Rattle.report_read.proofs.Read.{number-held, front-kind, field-body, field_room}
use Rattle.sheets_field.proofs.Field.{held_of, size-of}
use Rattle.sheets_field.proofs.is_field.Goals as goal

pub overflow_mul-count : goal.overflow_mul-count
overflow_mul-count c = omega (arith, c.requires.1)

pub overflow_add-count : goal.overflow_add-count
overflow_add-count c = omega (arith, c.requires.1)

pub returns-then-report-at : goal.returns-then-report-at
returns-then-report-at c = let a = c.args in let r = a.report.now in let bs = numbers (sheets_in a.count a.work.now) in let l : a.at ≤ length r = c.requires.2 in let n : length bs ≡ 2 * a.count = length-list (sheet_of a.work.now) a.count in is-not (λ h. omega (arith, c.if-report-at.true, field_room r a.at 138 bs l h, n))

pub bounds-report-at : goal.bounds-report-at
bounds-report-at c = omega (arith, c.if-report-at.false, c.requires.2)

pub returns-then-report-at-2 : goal.returns-then-report-at-2
returns-then-report-at-2 c = let a = c.args in let r = a.report.now in let bs = numbers (sheets_in a.count a.work.now) in let l : a.at ≤ length r = c.requires.2 in let n : length bs ≡ 2 * a.count = length-list (sheet_of a.work.now) a.count in is-not (λ h. c.if-report-at-2.true (front-kind r a.at 138 bs (omega (arith, c.if-report-at.false)) h))

pub number_in-requires : goal.number_in-requires
number_in-requires c = omega (arith, c.if-report-at.false, c.requires.2)

pub overflow_mul-count-2 : goal.overflow_mul-count-2
overflow_mul-count-2 c = omega (arith, c.requires.1)

pub overflow_cast-count : goal.overflow_cast-count
overflow_cast-count c = omega (arith, c.requires.1)

pub returns-then-number_in-count : goal.returns-then-number_in-count
returns-then-number_in-count c = let a = c.args in let r = a.report.now in let bs = numbers (sheets_in a.count a.work.now) in let l : a.at ≤ length r = c.requires.2 in let n : length bs ≡ 2 * a.count = length-list (sheet_of a.work.now) a.count in is-not (λ h. c.if-number_in-count.true (number-held r (a.at + 1) c.number_in.result (2 * a.count) c.number_in.ensures (size-of r a.at a.count a.work.now h)))

pub are_numbers-requires : goal.are_numbers-requires
are_numbers-requires c = (c.requires.0, c.requires.1, omega (arith, c.if-report-at.false, c.requires.2))

pub returns : goal.returns
returns c = let a = c.args in let r = a.report.now in let bs = numbers (sheets_in a.count a.work.now) in let l : a.at ≤ length r = c.requires.2 in let n : length bs ≡ 2 * a.count = length-list (sheet_of a.work.now) a.count in let size : c.number_in.result ≡ 2 * a.count = c.if-number_in-count.false in (λ t. held_of r a.at a.count a.work.now (omega (arith, c.if-report-at.false)) c.if-report-at-2.false (rw size at c.number_in.ensures) (c.are_numbers.ensures.0 t), λ h. c.are_numbers.ensures.1 (field-body r a.at 138 bs h))
