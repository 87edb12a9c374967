-- `answer_all::answer_field` meets its contract, field by field: a note is passed, a question answered, and no other field is an item.
-- Assumes nothing.
use mathlib.Core.Path.{ap, ◌∙◌}
use Rattle.std.specs.Prelude.{Ok}
use native.Mathlib.Omega.{arith}
use Rattle.job_field.specs.Answer.{said}
use Rattle.answer_all.proofs.Midway.{note-passed, question-stepped, met-note, met-question, met-bad, met-header, met-end}
use Rattle.answer_all.proofs.answer_field.Goals as goal

pub mark_note-requires : goal.mark_note-requires
mark_note-requires g c = (met-note (said c.args.field) _ c.requires.0 (ap said (c.in-Ok-Noted.is ∙ ap Ok (rw c.in-Ok-Noted.is at c.in-Ok-Noted.field-0-is)))).1

pub overflow_add-result : goal.overflow_add-result
overflow_add-result g c = omega (arith, (met-note (said c.args.field) _ c.requires.0 (ap said (c.in-Ok-Noted.is ∙ ap Ok (rw c.in-Ok-Noted.is at c.in-Ok-Noted.field-0-is)))).0, c.from.ensures, c.stands_for.ensures)

pub overflow_add-result-in-Ok-Noted : goal.overflow_add-result-in-Ok-Noted
overflow_add-result-in-Ok-Noted g c = omega (arith, (met-note (said c.args.field) _ c.requires.0 (ap said (c.in-Ok-Noted.is ∙ ap Ok (rw c.in-Ok-Noted.is at c.in-Ok-Noted.field-0-is)))).1.room, c.from-in-Ok-Noted.ensures, c.pairs_in.ensures)

pub answer_question-end-requires : goal.answer_question-end-requires
answer_question-end-requires g c = (met-question (said c.args.field) _ c.requires.0 (ap said (c.in-Ok-Posed.is ∙ ap Ok (rw c.in-Ok-Posed.is at c.in-Ok-Posed.field-0-is))), c.requires.1)

pub returns-in-Ok-Noted : goal.returns-in-Ok-Noted
returns-in-Ok-Noted g c = note-passed (said c.args.field) _ _ _ _ (ap said (c.in-Ok-Noted.is ∙ ap Ok (rw c.in-Ok-Noted.is at c.in-Ok-Noted.field-0-is))) (c.from.ensures ∙ c.stands_for.ensures) (c.from-in-Ok-Noted.ensures ∙ c.pairs_in.ensures) c.mark_note.ensures

pub returns-in-Ok-Posed : goal.returns-in-Ok-Posed
returns-in-Ok-Posed g c = question-stepped (said c.args.field) _ _ _ _ (ap said (c.in-Ok-Posed.is ∙ ap Ok (rw c.in-Ok-Posed.is at c.in-Ok-Posed.field-0-is))) c.answer_question-end.ensures

pub returns-in-Err : goal.returns-in-Err
returns-in-Err g c = absurd (met-bad (said c.args.field) c.requires.0 (ap said c.in-Err.is))

pub returns-in-Ok-Header : goal.returns-in-Ok-Header
returns-in-Ok-Header g c = absurd (met-header (said c.args.field) c.requires.0 (ap said (c.in-Ok-Header.is ∙ ap Ok (rw c.in-Ok-Header.is at c.in-Ok-Header.field-0-is))))

pub returns-in-Ok-End : goal.returns-in-Ok-End
returns-in-Ok-End g c = absurd (met-end (said c.args.field) c.requires.0 (ap said (c.in-Ok-End.is ∙ ap Ok (rw c.in-Ok-End.is at c.in-Ok-End.field-0-is))))
