-- The number of a fault is 14, 15 or 16. Assumes nothing.
use Prim.Native.Nat.{◌≤◌}
use native.Mathlib.Omega.{arith}
use mathlib.Core.Logic.{◌≢◌}
use Rattle.script_shelf.specs.Refusals.{fault_number}
use Rattle.script_shelf.specs.declared.refusal.Fault.{Fault}
use Rattle.script_shelf.specs.declared.refusal.Fault.TheVariants.{OutsideSubset, AgainstDeclarations, AboveLimit}

pub fault-range : (f : Fault) → (14 ≤ fault_number f) × (fault_number f ≤ 16)
fault-range OutsideSubset = (omega arith, omega arith)
fault-range AgainstDeclarations = (omega arith, omega arith)
fault-range AboveLimit = (omega arith, omega arith)

pub fault-some : (f : Fault) → fault_number f ≢ 0
fault-some f e = let r = (fault-range f).0 in omega arith
