-- `put_leaders` meets its contract: a turn lays the next leader behind those that are laid. Assumes nothing.
use Prim.Native.Nat.{◌-◌, ◌≤◌}
use mathlib.Core.Path.{◌≡◌}
use lib.ListN.{length}
use Rattle.table.specs.Map.{gather}
use Rattle.leading.specs.Leading.{leader_in}
use Rattle.report.specs.Report.{numbers, laid}
use Rattle.slow_answer.proofs.put_leaders.Given as goal

abbrev pub invariant-loop-i : goal.invariant-loop-i
invariant-loop-i l = (length l.room ≡ length l.initial.room) × (l.room ≡ laid 0 (numbers (gather (leader_in l.work) l.i)) l.initial.room)
