-- The rest of a recheck: where it may go on, the closure has the columns and the judge what the closure leaves, and its judgement makes the
-- promise; else the refusal is as it was seen. In both the work table is given back last.
-- Assumes nothing.
use Rattle.std.proofs.Common.{refl}
use Rattle.call_rest.proofs.Weighing.{weigh-asks, weigh-done, weigh-refused}
use Rattle.call_rest.proofs.weigh.Goals as goal

pub judge-j-requires : goal.judge-j-requires
judge-j-requires c = weigh-asks c.args.job.now c.args.report.now c.args.work.now _ (rw c.in-Ok.is at c.requires) refl _ _ _ c.close-t.ensures

pub returns-in-Ok : goal.returns-in-Ok
returns-in-Ok c =
    rw (c.in-Ok.is, c.found.ensures)
    (weigh-done c.args.job.now c.args.report.now c.args.work.now _ (rw c.in-Ok.is at c.requires) refl _ _ _ c.close-t.ensures _ _ c.judge-j.result c.judge-j.ensures c.give_back.ensures)

pub returns-in-Err : goal.returns-in-Err
returns-in-Err c = rw c.in-Err.is (weigh-refused c.args.job.now c.args.report.now c.args.work.now _ (rw c.in-Err.is at c.requires) _ refl (rw c.is_lent.ensures at c.give_back-in-Err.ensures))
