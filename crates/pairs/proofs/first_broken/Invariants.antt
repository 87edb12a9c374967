-- `pairs::first_broken` meets its contract: the numbers of all pairs before the present one are above the records.
-- Assumes nothing.
use Prim.Native.Nat.{ℕ, ◌<◌}
use Rattle.table.specs.Map.{since_of}
use Rattle.pairs.proofs.first_broken.Given as goal

abbrev pub invariant-loop-i : goal.invariant-loop-i
invariant-loop-i l = (j : ℕ) → j < l.i → l.before < since_of l.work j
