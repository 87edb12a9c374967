-- `fit` meets its contract: a refusal needs no room, and else it compares.
-- Assumes nothing.
use native.Mathlib.Omega.{arith}
use Rattle.std.proofs.lemmas.Result.{err_from_is_err_and}
use Rattle.call_rest.specs.Finish as f
use Rattle.call_rest.proofs.fit.Goals as goal

pub returns-in_err-sight : goal.returns-in_err-sight
returns-in_err-sight c =
    let p = err_from_is_err_and c.from_residual.result c.from_residual.ensures.1 in
    rw (p.1, p.2, c.in_err-sight.was) (f.roomy (omega arith))

pub returns-then-room-sight : goal.returns-then-room-sight
returns-then-room-sight c = rw (c.of.ensures, c.in_ok-sight.was) (f.cramped (omega (arith, c.if-room-sight.true)))

pub returns : goal.returns
returns c = rw c.in_ok-sight.was (f.roomy (omega (arith, c.if-room-sight.false)))
