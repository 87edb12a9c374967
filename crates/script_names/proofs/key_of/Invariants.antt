use Rattle.script_names.proofs.Sums.{Summing}
use Rattle.script_names.proofs.key_of.Given as goal

abbrev pub invariant-loop-i : goal.invariant-loop-i
invariant-loop-i l = Summing l.script l.from l.to l.i l.key
