-- `judge::ended` meets its contract: the totals are compared whole, and then the report's length.
-- Assumes nothing.
use native.Mathlib.Omega.{arith}
use mathlib.Core.Path.{refl}
use Rattle.meaning.proofs.Tests.{true-or-false}
use Rattle.judge.specs.Ended.{right, spare, wrong}
use Rattle.answer_ask.proofs.Right.{pair-room}
use Rattle.judge.proofs.ended.Goals as goal

pub overflow_add-at : goal.overflow_add-at
overflow_add-at c = omega (arith, pair-room c.args.report.now c.args.at 143 _ _ c.requires.0 (c.is_totals.ensures.0 c.if-is_totals.true))

pub overflow_add-result : goal.overflow_add-result
overflow_add-result c = omega (arith, pair-room c.args.report.now c.args.at 143 _ _ c.requires.0 (c.is_totals.ensures.0 c.if-is_totals.true))

pub returns-then-report-at : goal.returns-then-report-at
returns-then-report-at c = right (c.is_totals.ensures.0 c.if-is_totals.true) c.if-report-at.true

pub returns-else-report-at : goal.returns-else-report-at
returns-else-report-at c =
    let h = c.is_totals.ensures.0 c.if-is_totals.true in
    spare h (omega (arith, pair-room c.args.report.now c.args.at 143 _ _ c.requires.0 h, c.if-report-at.false)) refl

pub returns-else-is_totals : goal.returns-else-is_totals
returns-else-is_totals c = wrong (λ h. true-or-false (c.is_totals.ensures.1 h) c.if-is_totals.false) refl
