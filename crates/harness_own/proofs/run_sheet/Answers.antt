-- `harness_own::run_sheet` meets its contract: what the record table's part leaves is what the rest of a run begins with, and both together make the run's promise.
-- Assumes nothing.
use mathlib.Core.Path.{◌∙◌}
use Rattle.call_intake.proofs.Columns.{received-begun}
use Rattle.harness.proofs.Ran.{finished-ran}
use Rattle.harness_own.proofs.Inside.{inside-room}
use Rattle.harness_own.proofs.run_sheet.Goals as goal

pub finish-requires : goal.finish-requires
finish-requires c = received-begun c.receive_over-looked.ensures.received

pub returns : goal.returns
returns c =
    let o = c.receive_over-looked.ensures in
    let ran = finished-ran c.args.job.now c.args.room.now _ c.args.work.now _ _ _ o.received _ _ _ _ _ c.finish.ensures in
    record { records = o.records; ran = ran; room_kept = c.finish.auto.room; work_kept = c.finish.auto.work ∙ c.receive_over-looked.auto.work; inside = inside-room ran }
