-- `judge_explain::because` meets its contract: where the equality follows, the right fields are those of kind 84 whose body is a reason.
-- Assumes nothing.
use native.Mathlib.Omega.{arith}
use Rattle.judge_explain.proofs.Right.{untrue, front-whole, whole_room, because-cut, because-other, because-right, because-wrong}
use Rattle.judge_explain.proofs.because.Goals as goal

pub returns-then-kind : goal.returns-then-kind
returns-then-kind c =
    let a = c.args in
    because-other a.work.now a.report.now a.at a.q (front-whole c.front_at.ensures c.in-Some.is) c.if-kind.true

pub overflow_add-at : goal.overflow_add-at
overflow_add-at c = omega (arith, whole_room c.requires.1 (front-whole c.front_at.ensures c.in-Some.is))

pub is_reason-requires : goal.is_reason-requires
is_reason-requires c = (c.requires.0, whole_room c.requires.1 (front-whole c.front_at.ensures c.in-Some.is))

pub overflow_add-result : goal.overflow_add-result
overflow_add-result c = omega (arith, whole_room c.requires.1 (front-whole c.front_at.ensures c.in-Some.is))

pub overflow_add-result-then-is_reason : goal.overflow_add-result-then-is_reason
overflow_add-result-then-is_reason c = omega (arith, whole_room c.requires.1 (front-whole c.front_at.ensures c.in-Some.is))

pub returns-in-None : goal.returns-in-None
returns-in-None c =
    let a = c.args in
    because-cut a.work.now a.report.now a.at a.q c.front_at.ensures c.in-None.is

pub returns-then-is_reason : goal.returns-then-is_reason
returns-then-is_reason c =
    let a = c.args in
    because-right a.work.now a.report.now a.at a.q (front-whole c.front_at.ensures c.in-Some.is)
    c.if-kind.false c.is_reason.ensures.kept (c.is_reason.ensures.exact.0 c.if-is_reason.true)

pub returns-else-is_reason : goal.returns-else-is_reason
returns-else-is_reason c =
    let a = c.args in
    because-wrong a.work.now a.report.now a.at a.q (front-whole c.front_at.ensures c.in-Some.is)
    c.is_reason.ensures.kept (untrue c.is_reason.ensures.exact c.if-is_reason.false)
