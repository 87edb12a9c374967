-- `back` meets its contract: each turn takes back the last join. Assumes nothing.
use Prim.Native.Nat.{suc, ◌-◌}
use native.Mathlib.Omega.{arith}
use mathlib.Core.Path.{◌≡◌}
use Rattle.list_rings.proofs.Linking.{returning-start, returning-more, returning-end}
use Rattle.list_rings.proofs.back.Goals as goal

pub loop-i-init : goal.loop-i-init
loop-i-init c = returning-start c.requires.1 c.requires.0

pub part-requires : goal.part-requires
part-requires c = let e : c.loop-i.i ≡ suc (c.loop-i.i - 1) = omega arith in rw e at c.loop-i.invariant.standing

pub loop-i-preserved : goal.loop-i-preserved
loop-i-preserved c = let e : c.loop-i.i ≡ suc (c.loop-i.i - 1) = omega arith in returning-more (omega arith) (rw e at c.loop-i.invariant) c.part.ensures

pub returns : goal.returns
returns c = returning-end (omega arith) c.loop-i.invariant
