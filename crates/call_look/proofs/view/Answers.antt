-- `view` meets its contract: reading answers its definition.
-- By the contract of `read_job`.
-- Assumes nothing.
use Rattle.std.proofs.lemmas.Result.{err_from_is_err_and}
use Rattle.job_read.proofs.Telling.{told-refused, told-accepted}
use Rattle.call_look.specs.Look.{unread}
use Rattle.call_look.proofs.Ready.{taken-viewed}
use Rattle.call_look.proofs.view.Goals as goal

pub returns-in_err-read : goal.returns-in_err-read
returns-in_err-read c =
    let p = err_from_is_err_and c.from_residual.result c.from_residual.ensures.1 in
    rw (p.1, p.2) (unread (told-refused c.args.job.now _ c.in_err-read.ensures))

pub returns : goal.returns
returns c = rw (c.from.ensures, c.from-2.ensures) (taken-viewed (told-accepted c.args.job.now _ c.in_ok-read.ensures))
