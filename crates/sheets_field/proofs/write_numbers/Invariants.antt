-- `sheets_field::write_numbers` meets its contract: a turn lays the next of the sheets behind those that are laid.
-- Assumes nothing.
use Prim.Native.Nat.{◌-◌, ◌≤◌}
use mathlib.Core.Path.{◌≡◌}
use lib.ListN.{length}
use Rattle.table.specs.Map.{sheets_in}
use Rattle.report.specs.Report.{numbers, laid}
use Rattle.sheets_field.proofs.write_numbers.Given as goal

abbrev pub invariant-loop-i : goal.invariant-loop-i
invariant-loop-i l = (length l.room ≡ length l.initial.room) × (l.room ≡ laid l.at (numbers (sheets_in l.i l.work)) l.initial.room)
