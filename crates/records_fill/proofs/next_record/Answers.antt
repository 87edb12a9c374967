-- The invariant is the search itself (Seeking): what was found last stands at a place from which the same records stand ahead. What
-- falls is what is left of the job behind a question.
-- Assumes nothing.
use Rattle.records_fill.proofs.Seeking.{seeking-begin, seeking-on, seeking-falls, seeking-done}
use Rattle.records_fill.proofs.next_record.Goals as goal

pub loop-f-init : goal.loop-f-init
loop-f-init c = seeking-begin _ _ _ c.look-f.ensures

pub loop-f-smaller : goal.loop-f-smaller
loop-f-smaller c = seeking-falls _ _ c.loop-f.f _ c.loop-f.invariant c.loop-f-test.true c.look-f-in-loop-f.ensures

pub loop-f-preserved : goal.loop-f-preserved
loop-f-preserved c = seeking-on _ _ c.loop-f.f _ c.loop-f.invariant c.loop-f-test.true c.look-f-in-loop-f.ensures

pub returns : goal.returns
returns c = seeking-done _ _ c.loop-f.f c.loop-f.invariant c.loop-f-test.false
