-- `sheets_field::is_sheets` meets its contract: the 8A of the sheets that are found stands there or does not, and no other is right.
-- Assumes nothing.
use native.Mathlib.Omega.{arith}
use mathlib.Core.Path.{refl}
use Rattle.meaning.proofs.Tests.{true-or-false}
use Rattle.report_read.proofs.Read.{holds-room}
use Rattle.sheets_field.proofs.Field.{field-length, seen-right, seen-wrong}
use Rattle.table.specs.Map.{sheets_in}
use Rattle.sheets_field.specs.Field.{sheets_bytes}
use Rattle.sheets_field.proofs.is_sheets.Goals as goal

pub find_sheets-c-requires : goal.find_sheets-c-requires
find_sheets-c-requires c = c.requires.0

pub is_field-requires : goal.is_field-requires
is_field-requires c = (omega (arith, c.requires.0.long, c.find_sheets-c.ensures.kept.size), omega (arith, c.requires.0.few, c.find_sheets-c.ensures.few), c.requires.1)

pub overflow_mul-result : goal.overflow_mul-result
overflow_mul-result c = omega (arith, c.requires.0.few, c.find_sheets-c.ensures.few)

pub overflow_add-result-then-is_field : goal.overflow_add-result-then-is_field
overflow_add-result-then-is_field c = omega (arith, holds-room c.args.report.now c.args.at (sheets_bytes (sheets_in c.find_sheets-c.result c.find_sheets-c.new.work)) c.requires.1 (c.is_field.ensures.0 c.if-is_field.true), field-length c.find_sheets-c.new.work c.find_sheets-c.result)

pub returns-then-is_field : goal.returns-then-is_field
returns-then-is_field c = seen-right c.find_sheets-c.ensures (c.is_field.ensures.0 c.if-is_field.true) refl

pub returns-else-is_field : goal.returns-else-is_field
returns-else-is_field c = seen-wrong c.find_sheets-c.ensures (λ h. true-or-false (c.is_field.ensures.1 h) c.if-is_field.false)
