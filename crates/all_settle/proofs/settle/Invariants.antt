-- `settle` meets its contract. What is left to do falls with each that is met.
-- Assumes nothing.
use Prim.Native.Nat.{◌+◌, ◌-◌, ◌*◌, ◌≤◌}
use Rattle.table.specs.Map.{chain_of, Within}
use Rattle.table.specs.Places.{behind_columns, column_size}
use Rattle.all_index.specs.Waiting.{waiting}
use Rattle.all_settle.specs.State.{Open}
use Rattle.all_settle.proofs.settle.Given as goal

abbrev pub invariant-loop-to : goal.invariant-loop-to
invariant-loop-to l = Within behind_columns l.initial.work l.work × Open l.front l.work l.made l.to × (l.joins ≤ l.made)

abbrev pub decreases-loop-to : goal.decreases-loop-to
decreases-loop-to l = column_size * (l.front.size - l.made) + waiting l.front.places (chain_of l.work)
