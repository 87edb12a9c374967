-- The measure is the number of places.
use Prim.Native.Nat.{◌-◌}
use Rattle.list_halve.proofs.+halve.Given as goal

abbrev pub decreases-halve : goal.decreases-halve
decreases-halve l = l.hi - l.lo
