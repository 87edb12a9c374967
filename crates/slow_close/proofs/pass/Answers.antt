-- `pass` meets its contract.
-- Assumes nothing.
use mathlib.Core.Path.{◌≡◌}
use native.Mathlib.Omega.{arith}
use mathlib.Core.Logic.{inl, inr}
use Rattle.table.proofs.Frame.{within-refl, within-trans, within_wider}
use Rattle.slow_close.specs.Closing.{pass_part}
use Rattle.slow_close.proofs.Going.{turning-none, turning-step, pass-done}
use Rattle.slow_close.proofs.pass.Goals as goal
use Rattle.slow_close.proofs.pass.Goals.{then-step, else-step}

pub loop-i-init : goal.loop-i-init
loop-i-init c = (within-refl _, turning-none c.requires.0 c.requires.1 c.clear.ensures)

pub loop-i-preserved : goal.loop-i-preserved
loop-i-preserved c =
    let l = c.loop-i in
    let t = c.step.ensures in
    (within-trans l.invariant.0 t.kept, turning-step l.invariant.1 t (elim c.if-step.branch [ then-step z ↦ inl (z.if-step.true, z.joined-is) | else-step z ↦ inr (z.if-step.false, z.joined-is) ]))

pub returns : goal.returns
returns c =
    let l = c.loop-i in
    let e : l.i ≡ c.args.round.len = omega arith in
    pass-done (within-trans (within_wider pass_part (omega arith) (omega arith) c.clear.ensures.frame) l.invariant.0) (rw e at l.invariant.1)
