-- `advance` meets its contract. Between two passes the labels are those after the passes so far, all of which changed something.
-- Assumes nothing.
use Prim.Native.Nat.{◌-◌}
use Rattle.table.specs.Map.{Loaded}
use Rattle.slow_close.specs.Closing.{Between}
use Rattle.slow_close.proofs.advance.Given as goal

abbrev pub invariant-loop-done : goal.invariant-loop-done
invariant-loop-done l = Loaded l.size l.len l.initial.work × Between l.size l.len l.most l.initial.work l.work l.done
