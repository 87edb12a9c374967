-- `pass` meets its contract.
-- Assumes nothing.
use Prim.Native.Nat.{◌-◌, ◌≤◌}
use Rattle.table.specs.Map.{Within}
use Rattle.slow_close.specs.Closing.{pass_part, Turning}
use Rattle.slow_close.proofs.pass.Given as goal

abbrev pub invariant-loop-i : goal.invariant-loop-i
invariant-loop-i l = Within pass_part l.initial.work l.work × Turning l.round.size l.round.len l.round.done l.work l.i l.joined
