-- `merge` meets its contract. The part that is lent is the region of the labels to come, and comes back mapped.
-- Assumes nothing.
use mathlib.Core.Path.{◌≡◌, refl}
use Prim.Native.Nat.{◌+◌, ◌-◌}
use native.Mathlib.Omega.{arith}
use Rattle.table.specs.Places.{SAVED}
use Rattle.slow_chain.proofs.Views.{new-labelled}
use Rattle.slow_chain.proofs.merge.Goals as goal

pub returns : goal.returns
returns c =
    let z : SAVED.at + c.args.size - SAVED.at ≡ c.args.size = omega arith in
    new-labelled (SAVED.at + c.args.size - SAVED.at) c.args.work.now _ c.rename.new.part c.args.lo.0 c.args.hi.0 c.requires.0 (rw z c.requires.1) (rw z c.requires.2) (rw z c.requires.3) refl c.rename.ensures
