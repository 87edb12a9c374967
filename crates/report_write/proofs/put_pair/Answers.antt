-- `report_write::put_pair` meets its contract: the front says 4 bytes, and the two numbers are laid behind it.
-- Assumes nothing.
use native.Mathlib.Omega.{arith}
use Rattle.report_write.proofs.Written.{pair-laid}
use Rattle.report_write.proofs.put_pair.Goals as goal

pub returns : goal.returns
returns c =
    let a = c.args in
    pair-laid a.at a.kind a.a a.b a.room.now c.put_front.new.room c.put_number.new.room c.put_number-2.new.room
    (omega (arith, c.requires))
    c.put_front.ensures
    c.put_number.ensures
    c.put_number-2.ensures
