-- The number of a fault, as document 02, No. 4 gives it. Assumes nothing.
use Rattle.std.specs.Prelude.{ℕ}
use Rattle.script_shelf.specs.declared.refusal.Fault.{Fault}
use Rattle.script_shelf.specs.declared.refusal.Fault.TheVariants.{OutsideSubset, AgainstDeclarations, AboveLimit}

abbrev pub fault_number : Fault → ℕ
fault_number OutsideSubset = 14
fault_number AgainstDeclarations = 15
fault_number AboveLimit = 16
