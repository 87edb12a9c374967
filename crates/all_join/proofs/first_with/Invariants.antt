-- `first_with` meets its contract: no tag that was gone by has the label, and r has it itself.
-- Assumes nothing.
use Prim.Native.Nat.{ℕ, ◌<◌}
use mathlib.Core.Logic.{◌≢◌}
use Rattle.table.specs.Map.{label_of}
use Rattle.all_join.proofs.first_with.Given as goal

abbrev pub invariant-loop-x : goal.invariant-loop-x
invariant-loop-x l = ((y : ℕ) → y < l.x → label_of l.work y ≢ l.r.0)
