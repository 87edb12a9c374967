-- `harness_find::is_sooner` meets its contract: each step keeps what the comparison will say.
-- Assumes nothing.
use Prim.Native.Nat.{◌+◌, ◌-◌}
use native.Mathlib.Omega.{arith}
use mathlib.Core.Path.{◌≡◌, sym, ◌∙◌}
use borrow.Author.Tests.{eqb-true, eqb-false}
use Rattle.harness_find.proofs.Places.{step_start, step-x, step-y, step-met, step_end, last-few, step-on}
use Rattle.harness_find.proofs.is_sooner.Goals as goal

pub loop-init : goal.loop-init
loop-init c = let e : c.args.d - 0 ≡ c.args.d = omega arith in rw e (step_start _ _ c.requires.1 c.requires.2)

pub returns-then-eq : goal.returns-then-eq
returns-then-eq c = step-met c.requires.0 c.loop.invariant (eqb-true _ _ (sym c.eq.ensures ∙ c.if-eq.true))

pub last_record-e-requires : goal.last_record-e-requires
last_record-e-requires c = (c.requires.0.long, step-x c.requires.0 c.loop.invariant)

pub last_record-f-requires : goal.last_record-f-requires
last_record-f-requires c = (c.requires.0.long, step-y c.requires.0 c.loop.invariant)

pub far-x-requires : goal.far-x-requires
far-x-requires c = (c.requires.0.long, rw c.last_record-e.ensures (last-few c.requires.0 c.loop.invariant (λ e. omega (arith, e, c.loop-test.true)) _ c.loop.invariant.x-level))

pub far-y-requires : goal.far-y-requires
far-y-requires c = (c.requires.0.long, rw c.last_record-f.ensures (last-few c.requires.0 c.loop.invariant (λ e. omega (arith, e, c.loop-test.true)) _ c.loop.invariant.y-level))

pub loop-preserved : goal.loop-preserved
loop-preserved c =
    let e : c.args.d - (c.loop.counter + 1) ≡ c.args.d - c.loop.counter - 1 = omega arith in
    rw e (step-on c.requires.0 c.loop.invariant (λ e. omega (arith, e, c.loop-test.true)) (eqb-false _ _ (sym c.eq.ensures ∙ c.if-eq.false)) c.last_record-e.ensures c.last_record-f.ensures c.record_place-i.ensures c.record_place-h.ensures c.min-p.ensures c.min-q.ensures c.far-x.ensures c.far-y.ensures)

pub returns : goal.returns
returns c = step_end c.requires.0 c.loop.invariant (omega (arith, c.loop-test.false))
