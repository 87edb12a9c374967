-- `sheets_field::write_sheets` meets its contract: the sheets that are found are laid as a field, which ends behind two bytes for each.
-- Assumes nothing.
use native.Mathlib.Omega.{arith}
use mathlib.Core.Path.{refl}
use Rattle.sheets_field.proofs.Field.{laid_of}
use Rattle.sheets_field.proofs.write_sheets.Goals as goal

pub find_sheets-c-requires : goal.find_sheets-c-requires
find_sheets-c-requires c = c.requires.0

pub write_field-requires : goal.write_field-requires
write_field-requires c = (omega (arith, c.requires.0.long, c.find_sheets-c.ensures.kept.size), omega (arith, c.requires.0.few, c.find_sheets-c.ensures.few), omega (arith, c.requires.1, c.find_sheets-c.ensures.few))

pub overflow_mul-result : goal.overflow_mul-result
overflow_mul-result c = omega (arith, c.requires.0.few, c.find_sheets-c.ensures.few)

pub overflow_add-result-2 : goal.overflow_add-result-2
overflow_add-result-2 c = omega (arith, c.requires.1, c.find_sheets-c.ensures.few)

pub returns : goal.returns
returns c = laid_of c.find_sheets-c.ensures c.write_field.ensures refl
