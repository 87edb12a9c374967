-- `harness_find::rise` meets its contract: each turn tries one record more.
-- Assumes nothing.
use Rattle.harness_find.proofs.Scanning.{Sweeping}
use Rattle.harness_find.proofs.rise.Given as goal

abbrev pub invariant-loop-k : goal.invariant-loop-k
invariant-loop-k l = Sweeping l.initial.work l.work l.before l.d l.k
