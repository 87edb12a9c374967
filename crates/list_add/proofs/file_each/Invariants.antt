-- `file_each` meets its contract, place by place. Assumes nothing.
use Rattle.table.specs.Map.{Within}
use Rattle.list_add.specs.Filing.{Filing}
use Rattle.table.specs.Places.{uses_part}
use Rattle.list_add.proofs.file_each.Given as goal

abbrev pub invariant-loop-i : goal.invariant-loop-i
invariant-loop-i l = Filing l.t.size l.t.len l.t.n l.work l.i × Within uses_part l.initial.work l.work
