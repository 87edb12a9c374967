-- `add_each` meets its contract, place by place. Assumes nothing.
use mathlib.Core.Path.{◌≡◌}
use native.Mathlib.Omega.{arith}
use native.Mathlib.Numerals.{add-one}
use Rattle.list_add.proofs.Adds.{added-start, added_then, adding-one}
use Rattle.list_add.proofs.add_each.Goals as goal

pub loop-i-init : goal.loop-i-init
loop-i-init c = added-start c.requires.rested

pub add-made-requires : goal.add-made-requires
add-made-requires c = adding-one c.requires c.loop-i.auto.i c.loop-i-test.true c.loop-i.invariant

pub loop-i-preserved : goal.loop-i-preserved
loop-i-preserved c = rw add-one (added_then c.loop-i.auto.i c.loop-i.invariant c.add-made.ensures)

pub returns : goal.returns
returns c = let e : c.loop-i.i ≡ c.args.hi = omega (arith, c.loop-i.auto.i-end c.requires.order, c.loop-i-test.false) in rw e at c.loop-i.invariant
