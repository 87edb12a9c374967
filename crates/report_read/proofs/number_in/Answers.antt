-- `report_read::number_in` meets its contract: the two bytes at the place are those of the number that they make.
-- Assumes nothing.
use Prim.Native.Nat.{◌+◌}
use native.Mathlib.Omega.{arith}
use Rattle.report_read.proofs.Read.{holds-number}
use Rattle.report_read.proofs.number_in.Goals as goal

pub returns : goal.returns
returns c = let a = c.args in rw (c.from.ensures, c.from-2.ensures) (holds-number a.report.now a.at (omega (arith, c.requires)) (omega (arith, c.type_inv.report (a.at + 1))))
