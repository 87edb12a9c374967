-- `report_numbers::write_reason` meets its contract: the front says two bytes for each number, and the list stands behind it.
-- Assumes nothing.
use native.Mathlib.Omega.{arith}
use Rattle.table.specs.Map.{list_of}
use Rattle.report_numbers.proofs.Written.{field-laid}
use Rattle.report_numbers.proofs.write_reason.Goals as goal

pub returns : goal.returns
returns c = field-laid 132 (list_of c.args.work.now) c.args.at c.args.count c.args.room.now _ _ (omega (arith, c.requires)) c.put_front.ensures c.write_list.ensures
