-- `job_read::read_job` meets its contract. The loop's invariant: what is left to read, with what has been seen, comes to the outcome of the
-- whole. The measure is what is left of the job, since each field that is passed has some bytes.
-- Assumes nothing.
use Rattle.job_read.proofs.Turning.{seeing-begin, seeing-on, seeing-closer, seeing-last, last-within, seeing-stopped}
use Rattle.job_read.specs.Turns.{Turned}
use Rattle.std.specs.Prelude.{Ok, Some, None, ◌≡◌}
use Rattle.std.proofs.lemmas.Result.{err_from_is_err_and}
use native.Mathlib.Omega.{arith}
use Rattle.job_read.proofs.read_job.Goals as goal

pub loop-next-init : goal.loop-next-init
loop-next-init c = seeing-begin _ c.default-seen.result c.default-seen.ensures

pub returns-in_err-next : goal.returns-in_err-next
returns-in_err-next c =
    let p = err_from_is_err_and c.from_residual.result c.from_residual.ensures.1 in
    rw (p.1, p.2) (seeing-stopped _ c.loop-next.seen _ c.loop-next.invariant c.in_err-next.ensures)

pub loop-next-smaller : goal.loop-next-smaller
loop-next-smaller c =
    let d = seeing-closer c.args.job.now c.loop-next.seen _ (rw c.in-Some.is at c.in_ok-next.ensures) in
    omega (arith, d.0, d.1)

pub loop-next-preserved : goal.loop-next-preserved
loop-next-preserved c = seeing-on _ c.loop-next.seen _ c.loop-next.invariant (rw c.in-Some.is at c.in_ok-next.ensures)

pub ended-requires-clause-at_in_bounds : goal.ended-requires-clause-at_in_bounds
ended-requires-clause-at_in_bounds c = last-within _ c.loop-next.seen (rw c.in_default.is at c.in_ok-next.ensures)

pub returns : goal.returns
returns c = seeing-last _ c.loop-next.seen _ c.loop-next.invariant (rw c.in_default.is at c.in_ok-next.ensures) c.ended.ensures
