use Rattle.script_tokens.specs.Kinds.{state_number}
use Rattle.script_tokens.proofs.Steps.{Skipping}
use Rattle.script_tokens.proofs.skip.Given as goal

abbrev pub invariant-loop-i : goal.invariant-loop-i
invariant-loop-i l = Skipping l.s l.from l.i (state_number l.state)
