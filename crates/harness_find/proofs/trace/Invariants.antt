-- `harness_find::trace` meets its contract: each turn lists one record more of the way back.
-- Assumes nothing.
use Rattle.harness_find.proofs.Tracing.{Tracing}
use Rattle.harness_find.proofs.trace.Given as goal

abbrev pub invariant-loop-i : goal.invariant-loop-i
invariant-loop-i l = Tracing l.initial.work l.work l.initial.v.0 l.n l.i l.v.0
