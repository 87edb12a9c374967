-- `sheets_field::write_field` meets its contract: the front says two bytes for each number, and the sheets stand behind it.
-- Assumes nothing.
use native.Mathlib.Omega.{arith}
use Rattle.table.specs.Map.{sheet_of}
use Rattle.report_numbers.proofs.Written.{field-laid}
use Rattle.sheets_field.proofs.write_field.Goals as goal

pub returns : goal.returns
returns c = field-laid 138 (sheet_of c.args.work.now) c.args.at c.args.count c.args.room.now _ _ (omega (arith, c.requires)) c.put_front.ensures c.write_numbers.ensures
