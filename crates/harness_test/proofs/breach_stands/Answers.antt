-- `harness_test::breach_stands` meets its contract: kind, length, the number of the pair and the numbers of the list are compared.
-- Assumes nothing.
use native.Mathlib.Omega.{arith}
use mathlib.Core.Path.{sym, ◌∙◌}
use mathlib.Core.List.{◌∷◌}
use Rattle.report.specs.Report.{numbers}
use Rattle.table.specs.Map.{list_in}
use Rattle.harness_test.proofs.Stands.{field_fits, stands-right, stands-not, stands-other, pair-other, pair-list, pair-both, breach-bytes, untrue}
use Rattle.harness_test.proofs.breach_stands.Goals as goal

pub overflow_add-at : goal.overflow_add-at
overflow_add-at c = omega (arith, field_fits c.requires.2 (c.is_field.ensures.0 c.if-is_field.true))

pub number_in-requires : goal.number_in-requires
number_in-requires c = omega (arith, field_fits c.requires.2 (c.is_field.ensures.0 c.if-is_field.true))

pub returns-then-from-number : goal.returns-then-from-number
returns-then-from-number c = stands-other c.args.report.now c.args.at 134 (numbers (c.args.number ∷ list_in c.args.count c.args.work.now)) (pair-other c.args.report.now c.args.at c.args.number (list_in c.args.count c.args.work.now) c.number_in.ensures (λ e. c.if-from-number.true (c.from.ensures ∙ e)))

pub overflow_add-at-then-is_field : goal.overflow_add-at-then-is_field
overflow_add-at-then-is_field c = omega (arith, field_fits c.requires.2 (c.is_field.ensures.0 c.if-is_field.true))

pub is_list-requires : goal.is_list-requires
is_list-requires c = (c.requires.0, c.requires.1, omega (arith, field_fits c.requires.2 (c.is_field.ensures.0 c.if-is_field.true)))

pub overflow_add-result : goal.overflow_add-result
overflow_add-result c = omega (arith, field_fits c.requires.2 (c.is_field.ensures.0 c.if-is_field.true))

pub overflow_add-result-then-is_list : goal.overflow_add-result-then-is_list
overflow_add-result-then-is_list c = omega (arith, field_fits c.requires.2 (c.is_field.ensures.0 c.if-is_field.true))

pub returns-then-is_list : goal.returns-then-is_list
returns-then-is_list c = stands-right c.args.report.now c.args.at 134 (numbers (c.args.number ∷ list_in c.args.count c.args.work.now)) (c.is_field.ensures.0 c.if-is_field.true) (breach-bytes c.args.work.now c.args.number c.args.count) (pair-both c.args.report.now c.args.at c.args.number (list_in c.args.count c.args.work.now) c.number_in.ensures (sym c.from.ensures ∙ c.if-from-number.false) (c.is_list.ensures.0 c.if-is_list.true))

pub returns-else-is_list : goal.returns-else-is_list
returns-else-is_list c = stands-other c.args.report.now c.args.at 134 (numbers (c.args.number ∷ list_in c.args.count c.args.work.now)) (λ h. untrue c.is_list.ensures c.if-is_list.false (pair-list c.args.report.now c.args.at c.args.number (list_in c.args.count c.args.work.now) h))

pub returns-else-is_field : goal.returns-else-is_field
returns-else-is_field c = stands-not c.args.report.now c.args.at 134 (numbers (c.args.number ∷ list_in c.args.count c.args.work.now)) (breach-bytes c.args.work.now c.args.number c.args.count) (untrue c.is_field.ensures c.if-is_field.false)
