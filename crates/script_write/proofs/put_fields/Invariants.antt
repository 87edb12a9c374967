use Rattle.script_write.proofs.Fields.{Putting}
use Rattle.script_write.proofs.put_fields.Given as goal

abbrev pub invariant-loop-i : goal.invariant-loop-i
invariant-loop-i l = Putting l.work l.counts.symbols l.counts.fields l.initial.room l.room l.start l.i l.at
