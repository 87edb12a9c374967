-- `report_write::put_number` meets its contract: two stores, one behind the other, are the two bytes of the number.
-- Assumes nothing.
use native.Mathlib.Omega.{arith}
use native.Mathlib.Numerals.{add-one}
use lib.ListN.{length-set}
use Rattle.report.specs.Report.{two}
use Rattle.report.proofs.Laid.{laid-sets}
use Rattle.report_write.proofs.put_number.Goals as goal

pub bounds-room-at-2 : goal.bounds-room-at-2
bounds-room-at-2 c = simp length-set (omega arith)

pub returns : goal.returns
unfolding two
returns c = rw add-one (laid-sets c.args.at (two c.args.n) c.args.room.now (omega (arith, c.requires)))
