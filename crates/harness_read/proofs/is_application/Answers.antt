-- `harness_read::is_application` meets its contract: three tests, in the order of the field.
-- Assumes nothing.
use native.Mathlib.Omega.{arith}
use Rattle.harness_read.proofs.Walking.{mark-cut, mark-first, mark-byte}
use Rattle.harness_read.proofs.is_application.Goals as goal

pub returns-then-job-lt3 : goal.returns-then-job-lt3
returns-then-job-lt3 c = mark-cut c.args.job.now c.args.at (omega (arith, c.if-job-lt3.true))

pub returns-then-job-at : goal.returns-then-job-at
returns-then-job-at c = mark-cut c.args.job.now c.args.at (omega (arith, c.if-job-at.true, c.if-job-lt3.false))

pub returns-then-at-eq0 : goal.returns-then-at-eq0
returns-then-at-eq0 c = mark-first c.args.job.now c.args.at c.if-at-eq0.true

pub returns : goal.returns
returns c = mark-byte c.args.job.now c.args.at (omega (arith, c.if-job-at.false, c.if-job-lt3.false)) c.if-at-eq0.false
