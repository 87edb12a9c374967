-- `advance` meets its contract. Between two passes the labels are those after the passes so far, all of which changed something.
-- Assumes nothing.
use native.Mathlib.Omega.{arith}
use Rattle.std.proofs.Common.{◌≡◌, ℕ, subst}
use Rattle.slow_close.specs.Closing.{Advanced}
use Rattle.slow_close.proofs.Passing.{begun, advanced-all, between_next, advanced-still, advanced-from}
use Rattle.slow_close.proofs.advance.Goals as goal

pub loop-done-init : goal.loop-done-init
loop-done-init c = begun c.requires c.fresh.ensures

pub loop-done-preserved : goal.loop-done-preserved
loop-done-preserved c = (c.loop-done.invariant.0, between_next c.loop-done.invariant.1 c.turn.ensures c.if-not-turn.false (omega arith))

pub returns-then-not-turn : goal.returns-then-not-turn
returns-then-not-turn c = advanced-from c.fresh.ensures (advanced-still c.loop-done.invariant.1 c.turn.ensures c.loop-done.invariant.0 c.if-not-turn.true)

pub returns : goal.returns
returns c =
    let e : c.loop-done.done ≡ c.args.most = omega arith in
    subst (λ (n : ℕ). Advanced c.args.size c.args.len c.args.most c.args.work.now c.loop-done.work n) e (advanced-from c.fresh.ensures (advanced-all c.loop-done.invariant.1 c.loop-done.invariant.0 (omega arith)))
