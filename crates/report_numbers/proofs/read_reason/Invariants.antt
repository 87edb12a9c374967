-- `report_numbers::read_reason` meets its contract: a turn brings the next number of the report to the next place of the list.
-- Assumes nothing.
use Rattle.report_numbers.specs.Read.{ListRead}
use Rattle.report_numbers.proofs.read_reason.Given as goal

abbrev pub invariant-loop-i : goal.invariant-loop-i
invariant-loop-i l = ListRead l.report l.at l.i l.initial.work l.work
