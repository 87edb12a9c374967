-- `settle` meets its contract: with each step the rank falls. Assumes nothing.
use native.Mathlib.Omega.{arith}
use Rattle.list_add.proofs.Turns.{went-same, went_then, turned-busy, turned-end}
use Rattle.list_add.proofs.settle.Goals as goal

pub loop-t-init : goal.loop-t-init
loop-t-init c = (c.requires, went-same _)

pub turn-q-requires : goal.turn-q-requires
turn-q-requires c = tt

pub returns-then-q-eq0 : goal.returns-then-q-eq0
returns-then-q-eq0 c = let v = c.loop-t.invariant in let e = c.turn-q.ensures in (turned-end e.0 e.1 c.if-q-eq0.true v.0, rw e.1 v.1)

pub step-r-requires : goal.step-r-requires
step-r-requires c = let e = c.turn-q.ensures in (turned-busy e.0 e.1 c.loop-t.invariant.0, omega (arith, c.if-q-eq0.false))

pub loop-t-smaller : goal.loop-t-smaller
loop-t-smaller c = rw c.turn-q.ensures.1 at c.step-r.ensures.2

pub loop-t-preserved : goal.loop-t-preserved
loop-t-preserved c = let v = c.loop-t.invariant in (c.step-r.ensures.0, went_then v.1 (rw c.turn-q.ensures.1 at c.step-r.ensures.1))
