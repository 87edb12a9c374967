-- `run` meets its contract: what was received is what the rest of a run begins with, and both together make the run's promise.
-- Assumes nothing.
use Rattle.call_intake.proofs.Columns.{received-begun}
use Rattle.harness.proofs.Ran.{finished-ran}
use Rattle.harness.proofs.run.Goals as goal

pub finish-requires : goal.finish-requires
finish-requires c = received-begun c.receive-looked.ensures

pub returns : goal.returns
returns c = finished-ran c.args.job.now c.args.room.now c.args.records.now c.args.work.now _ c.receive-looked.new.records c.receive-looked.new.work c.receive-looked.ensures _ _ _ _ _ c.finish.ensures
