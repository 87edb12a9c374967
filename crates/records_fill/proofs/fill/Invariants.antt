-- The places below i hold the records below i, and the cursor stands where the records from i on stand ahead (Going).
-- Assumes nothing.
use Rattle.records_fill.proofs.Filling.{Going}
use Rattle.records_fill.proofs.fill.Given as goal

abbrev pub invariant-loop-i : goal.invariant-loop-i
invariant-loop-i l = Going l.job l.n l.fn.records l.i l.records l.at
