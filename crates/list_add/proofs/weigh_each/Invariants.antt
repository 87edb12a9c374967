-- `weigh_each` meets its contract: only weights are written. Assumes nothing.
use Rattle.table.specs.Map.{Within}
use Rattle.list_add.specs.Filing.{Filing}
use Rattle.table.specs.Places.{WEIGHT, all_of}
use Rattle.list_add.proofs.weigh_each.Given as goal

abbrev pub invariant-loop-i : goal.invariant-loop-i
invariant-loop-i l = Filing l.t.size l.t.len l.t.n l.work l.t.n × Within (all_of WEIGHT) l.initial.work l.work
