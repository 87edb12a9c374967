-- `sheets_walk::take_one` meets its contract: the record that is due stands further on, or it is the field's and its sheet is filed.
-- Assumes nothing.
use native.Mathlib.Omega.{arith}
use mathlib.Core.Path.{◌∙◌}
use Rattle.job_field.specs.Answer.{said}
use Rattle.sheets_walk.proofs.Walk.{turn-further, turn-here}
use Rattle.sheets_walk.proofs.take_one.Goals as goal

pub listed-requires : goal.listed-requires
listed-requires c = (c.requires.long, c.requires.place)

pub overflow_add-passed : goal.overflow_add-passed
overflow_add-passed c = omega (arith, c.requires.few, c.from-here.ensures)

pub returns-then-passed-here : goal.returns-then-passed-here
returns-then-passed-here c = turn-further (said c.args.field) c.args.work.now c.args.passed c.args.i _ _ (c.from-here.ensures ∙ c.records_here.ensures) (c.record_place-due.ensures ∙ c.listed.ensures) c.if-passed-here.true

pub file-requires : goal.file-requires
file-requires c = (c.requires.long, omega (arith, c.requires.low, c.from.ensures, c.sheet_here.ensures))

pub overflow_add-result : goal.overflow_add-result
overflow_add-result c = omega (arith, c.requires.place)

pub returns : goal.returns
returns c = turn-here (said c.args.field) c.args.work.now c.args.passed c.args.i _ _ (c.from-here.ensures ∙ c.records_here.ensures) (c.record_place-due.ensures ∙ c.listed.ensures) _ _ (omega (arith, c.if-passed-here.false)) (c.from.ensures ∙ c.sheet_here.ensures) c.file.ensures
