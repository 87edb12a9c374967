-- `scatter` meets its contract, tag by tag. Assumes nothing.
use Rattle.list_rings.proofs.Linking.{Scattering}
use Rattle.list_rings.proofs.scatter.Given as goal

abbrev pub invariant-loop-x : goal.invariant-loop-x
invariant-loop-x l = Scattering l.initial.work l.work l.x
