-- `job_read::advance` meets its contract: each arm has what the field said, and the laws of reading say what that leads to.
-- Assumes nothing.
use Rattle.job_field.specs.Answer.{field_said}
use Rattle.job_read.proofs.Turning.{stopped_at, at_last, on-header, on-note, on-question}
use Rattle.std.proofs.lemmas.Result.{err_from_is_err_and}
use mathlib.Core.Path.{ap, ◌∙◌}
use Rattle.job_read.proofs.advance.Goals as goal

pub returns-in_err-field : goal.returns-in_err-field
returns-in_err-field c =
    let p = err_from_is_err_and c.from_residual.result c.from_residual.ensures.1 in
    rw (p.1, p.2) (stopped_at c.args.job.now c.args.s c.requires _ c.in_err-field.ensures.0 c.in_err-field.ensures.1)

pub returns-in-Header : goal.returns-in-Header
returns-in-Header c = on-header c.args.job.now c.args.s c.requires _ _ c.behind.ensures (c.in_ok-field.ensures ∙ ap field_said c.in-Header.is)

pub returns-in-Noted : goal.returns-in-Noted
returns-in-Noted c = on-note c.args.job.now c.args.s c.requires _ _ _ c.behind.ensures c.past_note.ensures (c.in_ok-field.ensures ∙ ap field_said c.in-Noted.is)

pub returns-in-Posed : goal.returns-in-Posed
returns-in-Posed c =
    on-question c.args.job.now c.args.s c.requires _ _ _ _ c.behind.ensures c.room_of.ensures.0 c.past_question.ensures (c.in_ok-field.ensures ∙ ap field_said c.in-Posed.is)

pub returns-in-End : goal.returns-in-End
returns-in-End c = at_last c.args.job.now c.args.s c.requires (c.in_ok-field.ensures ∙ ap field_said c.in-End.is)
