-- `harness_test::reason_stands` meets its contract: kind, length and numbers are compared.
-- Assumes nothing.
use native.Mathlib.Omega.{arith}
use Rattle.report.specs.Report.{numbers}
use Rattle.table.specs.Map.{list_in}
use Rattle.harness_test.proofs.Stands.{field_fits, stands-right, stands-not, stands-other, list-bytes, untrue}
use Rattle.harness_test.proofs.reason_stands.Goals as goal

pub overflow_add-at : goal.overflow_add-at
overflow_add-at c = omega (arith, field_fits c.requires.2 (c.is_field.ensures.0 c.if-is_field.true))

pub is_list-requires : goal.is_list-requires
is_list-requires c = (c.requires.0, c.requires.1, omega (arith, field_fits c.requires.2 (c.is_field.ensures.0 c.if-is_field.true)))

pub overflow_add-result : goal.overflow_add-result
overflow_add-result c = omega (arith, field_fits c.requires.2 (c.is_field.ensures.0 c.if-is_field.true))

pub overflow_add-result-then-is_list : goal.overflow_add-result-then-is_list
overflow_add-result-then-is_list c = omega (arith, field_fits c.requires.2 (c.is_field.ensures.0 c.if-is_field.true))

pub returns-then-is_list : goal.returns-then-is_list
returns-then-is_list c = stands-right c.args.report.now c.args.at 132 (numbers (list_in c.args.count c.args.work.now)) (c.is_field.ensures.0 c.if-is_field.true) (list-bytes c.args.work.now c.args.count) (c.is_list.ensures.0 c.if-is_list.true)

pub returns-else-is_list : goal.returns-else-is_list
returns-else-is_list c = stands-other c.args.report.now c.args.at 132 (numbers (list_in c.args.count c.args.work.now)) (untrue c.is_list.ensures c.if-is_list.false)

pub returns-else-is_field : goal.returns-else-is_field
returns-else-is_field c = stands-not c.args.report.now c.args.at 132 (numbers (list_in c.args.count c.args.work.now)) (list-bytes c.args.work.now c.args.count) (untrue c.is_field.ensures c.if-is_field.false)
