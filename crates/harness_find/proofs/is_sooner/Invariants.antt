-- `harness_find::is_sooner` meets its contract: each step keeps what the comparison will say.
-- Assumes nothing.
use Prim.Native.Nat.{◌-◌}
use Rattle.harness_find.proofs.Places.{Stepping}
use Rattle.harness_find.proofs.is_sooner.Given as goal

abbrev pub invariant-loop : goal.invariant-loop
invariant-loop l = Stepping l.work l.d l.initial.x.0 l.initial.y.0 l.initial.p l.initial.q (l.d - l.counter) l.x.0 l.y.0 l.p l.q
