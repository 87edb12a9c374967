-- `text_field::fields_width` meets its contract: the field of the sheets, where one is due, is the first of what stands behind the question's own.
-- Assumes nothing.
use mathlib.Core.Path.{sym, ◌∙◌}
use Rattle.text_field.proofs.Parts.{behind-is, due-width, none-width}
use Rattle.text_field.proofs.fields_width.Goals as goal

pub returns-then-is_due : goal.returns-then-is_due
returns-then-is_due c =
    let report = c.args.report.now in
    due-width c.args.sheeted report _ _ (sym (rw c.byte.ensures at c.is_due.ensures) ∙ c.if-is_due.true) c.width-first.ensures (rw (behind-is report c.width-first.result c.width-first.ensures) at c.width.ensures)

pub returns-else-is_due : goal.returns-else-is_due
returns-else-is_due c = none-width c.args.sheeted c.args.report.now _ (sym (rw c.byte.ensures at c.is_due.ensures) ∙ c.if-is_due.false) c.width-first.ensures
