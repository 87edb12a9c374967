-- `close` meets its contract. Between records every moment so far is settled, and the idle records so far are counted.
-- Assumes nothing.
use Prim.Native.Nat.{◌-◌, ◌≤◌}
use Rattle.meaning.specs.Totals.{Count, Idle}
use Rattle.table.specs.Map.{records_in, Within}
use Rattle.table.specs.Places.{behind_columns}
use Rattle.all_close.specs.State.{Between}
use Rattle.all_close.proofs.close.Given as goal

abbrev pub invariant-loop-i : goal.invariant-loop-i
invariant-loop-i l = Within behind_columns l.initial.work l.work × Between l.size l.len l.i l.work l.joins × Count (Idle (records_in l.len l.work)) l.i l.idle
