-- `go_back` meets its contract. Assumes nothing.
use native.Mathlib.Omega.{arith}
use Rattle.list_halve.proofs.Steps.{backed, blank-standing}
use Rattle.list_halve.proofs.go_back.Goals as goal

pub blank_each-requires : goal.blank_each-requires
blank_each-requires c = let p = c.requires in (p.0.long, omega arith, p.2, p.3)

pub back-requires : goal.back-requires
back-requires c = let p = c.requires in (blank-standing p.0 c.blank_each.ensures, p.1)

pub returns : goal.returns
returns c = backed c.blank_each.ensures c.back.ensures
