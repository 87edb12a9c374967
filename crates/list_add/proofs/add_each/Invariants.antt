-- `add_each` meets its contract, place by place. Assumes nothing.
use Rattle.list_add.specs.Adding.{Added}
use Rattle.list_add.proofs.add_each.Given as goal

abbrev pub invariant-loop-i : goal.invariant-loop-i
invariant-loop-i l = Added l.t.size l.t.len l.t.n l.initial.work l.work l.lo l.i l.k l.made
