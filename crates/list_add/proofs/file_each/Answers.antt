-- `file_each` meets its contract, place by place. Assumes nothing.
use native.Mathlib.Omega.{arith}
use native.Mathlib.Numerals.{add-one}
use mathlib.Core.Path.{◌≡◌}
use Rattle.table.proofs.Frame.{within-refl, within-trans}
use Rattle.list_add.proofs.file_each.Goals as goal

pub loop-i-init : goal.loop-i-init
loop-i-init c = (c.requires, within-refl _)

pub file-requires : goal.file-requires
file-requires c = (c.loop-i.invariant.0, c.loop-i-test.true)

pub loop-i-preserved : goal.loop-i-preserved
loop-i-preserved c = let e = c.file.ensures in rw add-one (e.0, within-trans c.loop-i.invariant.1 e.1)

pub returns : goal.returns
returns c = let v = c.loop-i.invariant in let e : c.loop-i.i ≡ c.args.t.n = omega (arith, c.loop-i-test.false) in (rw e at v.0, v.1)
