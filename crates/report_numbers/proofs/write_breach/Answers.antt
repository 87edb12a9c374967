-- `report_numbers::write_breach` meets its contract: the front counts the pair's number too, and the list stands behind that.
-- Assumes nothing.
use native.Mathlib.Omega.{arith}
use Rattle.report_numbers.proofs.Written.{breach-laid}
use Rattle.report_numbers.proofs.write_breach.Goals as goal

pub returns : goal.returns
returns c = breach-laid c.args.at c.args.number c.args.count c.args.work.now c.args.room.now _ _ _ (omega (arith, c.requires)) c.put_front.ensures c.put_number.ensures c.write_list.ensures
