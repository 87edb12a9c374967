-- `touch_uses` meets its contract: what the list came by waits, and the rest of it is to come. Lists lead down, so p is the measure.
-- Assumes nothing.
use Prim.Native.Nat.{◌-◌}
use native.Mathlib.Omega.{arith}
use mathlib.Core.Path.{◌∙◌}
use Rattle.all_index.proofs.Views.{eqn-at, wide}
use Rattle.all_index.proofs.Sweeping.{along-none, along-app, along-step, along-all}
use Rattle.all_index.proofs.touch_uses.Goals as goal

pub last_use-p-requires : goal.last_use-p-requires
last_use-p-requires c = (c.requires.0.filing.loaded.long, c.requires.1)

pub loop-p-init : goal.loop-p-init
loop-p-init c = along-none c.args.second c.last_use-p.result c.args.x.0 c.requires.0 c.last_use-p.ensures

pub overflow_sub-p : goal.overflow_sub-p
overflow_sub-p c = omega arith

pub touch-to-requires : goal.touch-to-requires
touch-to-requires c =
    let k = c.last_use-p in
    let l = c.loop-p in
    let i = l.invariant in
    (i.touched.filing, i.touched.queue, omega (arith, i.place), eqn-at (wide i.touched.frame) (l.p - 1) ∙ along-app c.args.second k.result c.args.x.0 c.requires.0 k.ensures l.p l.to i (omega arith))

pub overflow_sub-p-in-loop-p : goal.overflow_sub-p-in-loop-p
overflow_sub-p-in-loop-p c = omega arith

pub use_before-p-requires : goal.use_before-p-requires
use_before-p-requires c =
    let g = c.touch-to.ensures.0.filing in
    (g.loaded.long, omega (arith, c.loop-p.invariant.place, g.reach, g.loaded.most))

pub loop-p-smaller : goal.loop-p-smaller
loop-p-smaller c =
    let k = c.last_use-p in
    let l = c.loop-p in
    let e = c.touch-to in
    (along-step c.args.second k.result c.args.x.0 c.requires.0 k.ensures l.p l.to c.use_before-p.result e.result l.invariant (omega arith) e.ensures.0 e.ensures.1 c.use_before-p.ensures).0

pub loop-p-preserved : goal.loop-p-preserved
loop-p-preserved c =
    let k = c.last_use-p in
    let l = c.loop-p in
    let e = c.touch-to in
    (along-step c.args.second k.result c.args.x.0 c.requires.0 k.ensures l.p l.to c.use_before-p.result e.result l.invariant (omega arith) e.ensures.0 e.ensures.1 c.use_before-p.ensures).1

pub returns : goal.returns
returns c =
    let k = c.last_use-p in
    let l = c.loop-p in
    (l.invariant.touched, along-all c.args.second k.result c.args.x.0 c.requires.0 k.ensures l.p l.to l.invariant (omega arith))
