-- `judge_broken::breach` meets its contract: the right fields are those of kind 86 whose body is the pair's number and a reason.
-- Assumes nothing.
use native.Mathlib.Omega.{arith}
use Rattle.judge_explain.proofs.Right.{untrue, front-whole, whole_room}
use Rattle.judge_broken.proofs.Right.{breach-cut, breach-other, breach-right, breach-wrong}
use Rattle.judge_broken.proofs.breach.Goals as goal

pub returns-then-kind : goal.returns-then-kind
returns-then-kind c = breach-other c.args.work.now c.args.report.now c.args.at c.args.q c.args.number (front-whole c.front_at.ensures c.in-Some.is) c.if-kind.true

pub overflow_add-at : goal.overflow_add-at
overflow_add-at c = omega (arith, whole_room c.requires.1 (front-whole c.front_at.ensures c.in-Some.is))

pub is_breach-requires : goal.is_breach-requires
is_breach-requires c = (c.requires.0, whole_room c.requires.1 (front-whole c.front_at.ensures c.in-Some.is))

pub overflow_add-result : goal.overflow_add-result
overflow_add-result c = omega (arith, whole_room c.requires.1 (front-whole c.front_at.ensures c.in-Some.is))

pub overflow_add-result-then-is_breach : goal.overflow_add-result-then-is_breach
overflow_add-result-then-is_breach c = omega (arith, whole_room c.requires.1 (front-whole c.front_at.ensures c.in-Some.is))

pub returns-in-None : goal.returns-in-None
returns-in-None c = breach-cut c.args.work.now c.args.report.now c.args.at c.args.q c.args.number c.front_at.ensures c.in-None.is

pub returns-then-is_breach : goal.returns-then-is_breach
returns-then-is_breach c = breach-right c.args.work.now c.args.report.now c.args.at c.args.q c.args.number (front-whole c.front_at.ensures c.in-Some.is) c.if-kind.false c.is_breach.ensures.kept (c.is_breach.ensures.exact.0 c.if-is_breach.true)

pub returns-else-is_breach : goal.returns-else-is_breach
returns-else-is_breach c = breach-wrong c.args.work.now c.args.report.now c.args.at c.args.q c.args.number (front-whole c.front_at.ensures c.in-Some.is) c.is_breach.ensures.kept (untrue c.is_breach.ensures.exact c.if-is_breach.false)
