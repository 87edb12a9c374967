-- `sheets_field::are_numbers` meets its contract. The loop's invariant: the numbers passed stand there; one that does not stand at its place decides.
-- Assumes nothing.
use Prim.Native.Nat.{◌-◌, ◌≤◌}
use Rattle.table.specs.Map.{sheets_in}
use Rattle.report.specs.Report.{numbers}
use Rattle.report_read.specs.Read.{Holds}
use Rattle.sheets_field.proofs.are_numbers.Given as goal

abbrev pub invariant-loop-i : goal.invariant-loop-i
invariant-loop-i l = Holds l.report l.at (numbers (sheets_in l.i l.work))
