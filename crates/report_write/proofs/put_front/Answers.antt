-- `report_write::put_front` meets its contract: the kind is stored, and its length is laid behind it.
-- Assumes nothing.
use native.Mathlib.Omega.{arith}
use lib.ListN.{length-set}
use Rattle.report_write.proofs.Written.{front-laid}
use Rattle.report_write.proofs.put_front.Goals as goal

pub put_number-requires : goal.put_number-requires
put_number-requires c = simp length-set (omega arith)

pub returns : goal.returns
returns c = let a = c.args in front-laid a.at a.kind a.size a.room.now c.put_number.new.room (omega (arith, c.requires)) c.put_number.ensures
