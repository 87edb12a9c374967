-- `answer_why::are_leaders` meets its contract. The loop's invariant: the numbers passed stand there; one that does not stand at its place decides.
-- Assumes nothing.
use Prim.Native.Nat.{◌≤◌}
use Rattle.table.specs.Map.{gather}
use Rattle.leading.specs.Leading.{leader_in}
use Rattle.report.specs.Report.{numbers}
use Rattle.report_read.specs.Read.{Holds}
use Rattle.answer_why.proofs.are_leaders.Given as goal

abbrev pub invariant-loop-i : goal.invariant-loop-i
invariant-loop-i l = (l.i ≤ l.size) × Holds l.report l.at (numbers (gather (leader_in l.work) l.i))
