-- `above` meets its contract. What was gone by is above j; links fall, so p is the measure.
-- Assumes nothing.
use Prim.Native.Nat.{◌-◌}
use native.Mathlib.Omega.{arith}
use Rattle.all_index.proofs.Filing.{falls'}
use Rattle.all_index.proofs.Placing.{seen_none, seen_step, seen-place, seen_all}
use Rattle.all_index.proofs.above.Goals as goal

pub bucket-p-requires : goal.bucket-p-requires
bucket-p-requires c = (c.requires.0.loaded.long, c.requires.1)

pub loop-p-init : goal.loop-p-init
loop-p-init c = seen_none _ _ _ _ c.bucket-p.ensures

pub overflow_add-j : goal.overflow_add-j
overflow_add-j c = record { fits = omega (arith, c.requires.2, c.requires.0.reach, c.requires.0.loaded.most) }

pub overflow_sub-p : goal.overflow_sub-p
overflow_sub-p c = omega arith

pub link-p-requires : goal.link-p-requires
link-p-requires c = (c.requires.0.loaded.long, omega (arith, seen-place c.requires.0 c.loop-p.invariant (omega arith), c.requires.0.reach, c.requires.0.loaded.most))

pub loop-p-smaller : goal.loop-p-smaller
loop-p-smaller c =
    let l = c.loop-p in
    rw c.link-p.ensures (omega (arith, falls' c.requires.0.filed (l.p - 1)))

pub loop-p-preserved : goal.loop-p-preserved
loop-p-preserved c = seen_step c.link-p.result c.loop-p.invariant (omega arith) c.link-p.ensures

pub returns : goal.returns
returns c = seen_all c.loop-p.invariant (omega arith)
