-- `judge_explain::meets` meets its contract: the numbers are those that the bytes say, and the five points of a reason follow from the
-- tests. Assumes nothing.
use native.Mathlib.Omega.{arith}
use Rattle.judge_explain.proofs.Right.{untrue, reason-odd, reason-long, reason-falls, reason-named, reason-served}
use Rattle.judge_explain.proofs.meets.Goals as goal

pub returns-then-bytes-ne0 : goal.returns-then-bytes-ne0
returns-then-bytes-ne0 c =
    let a = c.args in
    reason-odd a.work.now a.report.now a.at a.bytes a.q c.if-bytes-ne0.true

pub overflow_sub-q : goal.overflow_sub-q
overflow_sub-q c = omega (arith, c.requires.0.posed.past.loaded.some)

pub overflow_mul-q : goal.overflow_mul-q
overflow_mul-q c = omega (arith, c.requires.0.posed.past.loaded.few)

pub returns-then-count-q : goal.returns-then-count-q
returns-then-count-q c =
    let a = c.args in
    reason-long a.work.now a.report.now a.at a.bytes a.q c.if-count-q.true

pub read_reason-requires : goal.read_reason-requires
read_reason-requires c =
    let l = c.requires.0.posed.past.loaded in
    (l.long, omega (arith, l.few, c.if-count-q.false), omega (arith, c.requires.1, c.if-bytes-ne0.false))

pub rises-requires : goal.rises-requires
rises-requires c =
    let l = c.requires.0.posed.past.loaded in
    (omega (arith, l.long, c.read_reason.ensures.kept.size), omega (arith, l.few, c.if-count-q.false))

pub serves-requires : goal.serves-requires
serves-requires c =
    let a = c.args in
    reason-named a.work.now a.report.now a.at a.bytes a.q _ c.requires.0 c.if-bytes-ne0.false
    c.read_reason.ensures c.if-count-q.false (c.rises.ensures.0 c.if-rises.true)

pub returns-then-rises : goal.returns-then-rises
returns-then-rises c =
    let a = c.args in
    reason-served a.work.now a.report.now a.at a.bytes a.q _ c.requires.0 c.if-bytes-ne0.false
    c.read_reason.ensures c.if-count-q.false
    (c.rises.ensures.0 c.if-rises.true) c.serves.ensures

pub returns-else-rises : goal.returns-else-rises
returns-else-rises c =
    let a = c.args in
    reason-falls a.work.now a.report.now a.at a.bytes a.q _ c.requires.0 c.if-bytes-ne0.false
    c.read_reason.ensures (untrue c.rises.ensures c.if-rises.false)
