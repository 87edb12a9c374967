-- `report_numbers::write_list` meets its contract: a turn lays the next number of the list behind those that are laid.
-- Assumes nothing.
use mathlib.Core.Path.{◌≡◌}
use lib.ListN.{length}
use Rattle.table.specs.Map.{list_in}
use Rattle.report.specs.Report.{numbers, laid}
use Rattle.report_numbers.proofs.write_list.Given as goal

abbrev pub invariant-loop-i : goal.invariant-loop-i
invariant-loop-i l = (length l.room ≡ length l.initial.room) × (l.room ≡ laid l.at (numbers (list_in l.i l.work)) l.initial.room)
