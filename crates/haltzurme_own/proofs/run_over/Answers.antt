-- `run_over` meets its contract: what the record table's part leaves is what the rest of a run begins with, and both together make the run's promise.
-- Assumes nothing.
use mathlib.Core.Path.{◌∙◌}
use Rattle.call_intake.proofs.Columns.{received-begun}
use Rattle.haltzurme.proofs.Ran.{finished-ran}
use Rattle.haltzurme_own.proofs.Inside.{inside-room}
use Rattle.haltzurme_own.proofs.run_over.Goals as goal

pub finish-requires : goal.finish-requires
finish-requires c = received-begun c.receive_over-looked.ensures.received

pub returns : goal.returns
returns c =
    let o = c.receive_over-looked in
    let f = c.finish in
    let ran = finished-ran c.args.job.now c.args.room.now _ c.args.work.now _ _ _ o.ensures.received _ _ _ _ _ f.ensures in
    record { records = o.ensures.records; ran = ran; room_kept = f.auto.room; work_kept = f.auto.work ∙ o.auto.work; inside = inside-room ran }
