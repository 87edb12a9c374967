use Rattle.script_tokens.proofs.Steps.{Running}
use Rattle.script_tokens.proofs.run_end.Given as goal

abbrev pub invariant-loop-i : goal.invariant-loop-i
invariant-loop-i l = Running l.s l.from l.i
