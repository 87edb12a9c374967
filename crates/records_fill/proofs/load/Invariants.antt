-- The work table is what i turns make of it (loads).
-- Assumes nothing.
use Rattle.std.proofs.Common.{◌≡◌}
use Rattle.records_fill.proofs.Loading.{loads}
use Rattle.records_fill.proofs.load.Given as goal

abbrev pub invariant-loop-i : goal.invariant-loop-i
invariant-loop-i l = l.work ≡ loads l.records l.i l.fn.work
