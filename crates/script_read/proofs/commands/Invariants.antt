use Prim.Native.Nat.{◌-◌}
use lib.ListN.{length}
use Rattle.script_read.proofs.Running.{Running}
use Rattle.script_read.proofs.commands.Given as goal

abbrev pub invariant-loop-opening : goal.invariant-loop-opening
invariant-loop-opening l = Running l.script l.sort l.work l.seen l.start l.at

abbrev pub decreases-loop-opening : goal.decreases-loop-opening
decreases-loop-opening l = length l.script - l.at
