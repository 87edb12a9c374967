-- `answer_why::write_leaders` meets its contract: the front says two bytes for each number, and a turn lays the next leader
-- behind those that are laid. Assumes nothing.
use Prim.Native.Nat.{◌+◌, ◌≤◌}
use mathlib.Core.Path.{◌≡◌}
use lib.ListN.{length}
use Rattle.table.specs.Map.{gather}
use Rattle.leading.specs.Leading.{leader_in}
use Rattle.report.specs.Report.{numbers, laid}
use Rattle.answer_why.proofs.write_leaders.Given as goal

abbrev pub invariant-loop-i : goal.invariant-loop-i
invariant-loop-i l = (l.i ≤ l.size) × (length l.room ≡ length l.initial.room) × (l.room ≡ laid (l.at + 3) (numbers (gather (leader_in l.work) l.i)) l.initial.room)
