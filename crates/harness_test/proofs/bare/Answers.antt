-- `harness_test::bare` meets its contract: the field is one, and its bytes are compared.
-- Assumes nothing.
use native.Mathlib.Omega.{arith}
use mathlib.Core.List.{[]}
use Rattle.report_read.proofs.Read.{field_room}
use Rattle.harness_test.proofs.Stands.{untrue, bare-right, bare-wrong}
use Rattle.harness_test.proofs.bare.Goals as goal

pub overflow_add-result : goal.overflow_add-result
overflow_add-result c = omega (arith, field_room c.args.report.now c.args.at c.args.kind [] c.requires (c.is_bare.ensures.0 c.if-is_bare.true))

pub returns-then-is_bare : goal.returns-then-is_bare
returns-then-is_bare c = bare-right c.args.kind (c.is_bare.ensures.0 c.if-is_bare.true)

pub returns-else-is_bare : goal.returns-else-is_bare
returns-else-is_bare c = bare-wrong c.args.kind (untrue c.is_bare.ensures c.if-is_bare.false)
