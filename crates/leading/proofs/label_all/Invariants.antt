-- `leading::label_all` meets its contract: the tags before the one at hand are labelled by the smallest of their classes. Assumes nothing.
use Rattle.leading.specs.Leading.{Scanned}
use Rattle.leading.proofs.label_all.Given as goal

abbrev pub invariant-loop-i : goal.invariant-loop-i
invariant-loop-i l = Scanned l.initial.work l.work l.i l.age
