-- `passes_over` meets its contract: what the record table's part leaves is what the rest of the call begins with, and both together make the promise.
-- Assumes nothing.
use mathlib.Core.Path.{◌∙◌}
use Rattle.call_intake.proofs.Columns.{received-begun}
use Rattle.slow_rest.proofs.Counting.{rested-counted}
use Rattle.slow_own.proofs.passes_over.Goals as goal

pub count_rest-requires : goal.count_rest-requires
count_rest-requires c = received-begun c.receive_over-looked.ensures.received

pub returns : goal.returns
returns c =
    let o = c.receive_over-looked in
    let f = c.count_rest in
    record { records = o.ensures.records; counted = rested-counted c.args.job.now c.args.room.now _ c.args.work.now c.args.limit c.args.watch _ _ _ o.ensures.received _ _ _ _ _ f.ensures; room_kept = f.auto.room; work_kept = f.auto.work ∙ o.auto.work }
