-- `wake_uses` meets its contract: each turn wakes one more, and links fall. Assumes nothing.
use Prim.Native.Nat.{◌<◌}
use native.Mathlib.Omega.{arith}
use mathlib.Core.Path.{◌≡◌}
use Rattle.list_add.proofs.Wakes.{waking-start, waking-listed, waking-more, waking-end, falling-same}
use Rattle.list_add.proofs.wake_uses.Goals as goal

pub last_place-p-requires : goal.last_place-p-requires
last_place-p-requires c = (c.requires.0.long, c.requires.1)

pub loop-p-init : goal.loop-p-init
loop-p-init c = waking-start c.args.z.0 c.requires.0 c.requires.2 c.last_place-p.ensures

pub overflow_sub-p : goal.overflow_sub-p
overflow_sub-p c = omega arith

pub wake-made-requires : goal.wake-made-requires
wake-made-requires c =
    let v = c.loop-p.invariant in
    let l : 0 < c.loop-p.p = omega arith in
    (falling-same v.woken.kept c.requires.0, omega (arith, v.low), v.woken.low, waking-listed c.args.z.0 c.last_place-p.ensures l v)

pub overflow_sub-p-in-loop-p : goal.overflow_sub-p-in-loop-p
overflow_sub-p-in-loop-p c = omega arith

pub place_before-p-requires : goal.place_before-p-requires
place_before-p-requires c = let v = c.loop-p.invariant in (omega (arith, c.requires.0.long, v.woken.kept.size, c.wake-made.ensures.0.kept.size), omega (arith, v.low))

pub loop-p-smaller : goal.loop-p-smaller
loop-p-smaller c = let l : 0 < c.loop-p.p = omega arith in (waking-more c.requires.0 l c.loop-p.invariant c.wake-made.ensures c.place_before-p.ensures).1

pub loop-p-preserved : goal.loop-p-preserved
loop-p-preserved c = let l : 0 < c.loop-p.p = omega arith in (waking-more c.requires.0 l c.loop-p.invariant c.wake-made.ensures c.place_before-p.ensures).0

pub returns : goal.returns
returns c = let e : c.loop-p.p ≡ 0 = omega arith in rw c.last_place-p.ensures at (waking-end e c.loop-p.invariant)
