use Prim.Native.Nat.{◌-◌}
use lib.ListN.{length}
use Rattle.script_tokens.specs.Kinds.{number}
use Rattle.script_steps.proofs.Stepping.{Sorting}
use Rattle.script_steps.proofs.sorts.Given as goal

abbrev pub invariant-loop-x : goal.invariant-loop-x
invariant-loop-x l = Sorting l.script l.sort l.start l.at l.number (number l.x.kind) l.x

abbrev pub decreases-loop-x : goal.decreases-loop-x
decreases-loop-x l = length l.script - l.at
