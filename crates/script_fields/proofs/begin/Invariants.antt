use Rattle.script_fields.proofs.Fields.{Clearing}
use Rattle.script_fields.proofs.begin.Given as goal

abbrev pub invariant-loop-key : goal.invariant-loop-key
invariant-loop-key l = Clearing l.initial.work l.work l.key
