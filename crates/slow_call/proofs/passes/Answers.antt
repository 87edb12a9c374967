-- `passes` meets its contract: what was received is what the rest of the call begins with, and both together make the promise.
-- Assumes nothing.
use Rattle.call_intake.proofs.Columns.{received-begun}
use Rattle.slow_rest.proofs.Counting.{rested-counted}
use Rattle.slow_call.proofs.passes.Goals as goal

pub count_rest-requires : goal.count_rest-requires
count_rest-requires c = received-begun c.receive-looked.ensures

pub returns : goal.returns
returns c = rested-counted c.args.job.now c.args.room.now c.args.records.now c.args.work.now c.args.limit c.args.watch _ c.receive-looked.new.records c.receive-looked.new.work c.receive-looked.ensures _ _ _ _ _ c.count_rest.ensures
