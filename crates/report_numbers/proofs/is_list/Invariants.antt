-- `report_numbers::is_list` meets its contract. The loop's invariant: the numbers passed stand there; one that does not stand at its place decides.
-- Assumes nothing.
use Rattle.table.specs.Map.{list_in}
use Rattle.report.specs.Report.{numbers}
use Rattle.report_read.specs.Read.{Holds}
use Rattle.report_numbers.proofs.is_list.Given as goal

abbrev pub invariant-loop-i : goal.invariant-loop-i
invariant-loop-i l = Holds l.report l.at (numbers (list_in l.i l.work))
