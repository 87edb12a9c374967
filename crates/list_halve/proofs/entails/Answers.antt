-- `entails` meets its contract. Assumes nothing.
use native.Mathlib.Omega.{arith}
use Rattle.list_halve.proofs.Steps.{entailing}
use Rattle.list_halve.proofs.entails.Goals as goal

pub begin-requires : goal.begin-requires
begin-requires c = c.requires.0

pub add_each-requires : goal.add_each-requires
add_each-requires c = let b = c.begin.ensures in record { rested = b.rested; order = omega arith; top = omega arith; outs = λ j x y. b.outs j }

pub level-requires : goal.level-requires
level-requires c = let a = c.add_each.ensures.rested in (a.standing.long, omega (arith, c.requires.1, a.loaded.few), omega (arith, c.requires.2, a.loaded.few))

pub returns : goal.returns
returns c = entailing c.requires.0 c.begin.ensures c.add_each.ensures c.level.ensures
