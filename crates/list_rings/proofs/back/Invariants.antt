-- `back` meets its contract: each turn takes back the last join. Assumes nothing.
use Rattle.list_rings.proofs.Linking.{Returning}
use Rattle.list_rings.proofs.back.Given as goal

abbrev pub invariant-loop-i : goal.invariant-loop-i
invariant-loop-i l = Returning l.initial.work l.work l.k l.j l.i
