-- `text::tell_report` meets its contract. What reading answers says which of the two texts it is.
-- Assumes nothing.
use Rattle.job_read.proofs.Telling.{told-accepted}
use Rattle.text.proofs.Putting.{put-told, tells_as}
use Rattle.text.proofs.tell_report.Goals as goal

pub returns-in-Ok : goal.returns-in-Ok
returns-in-Ok c =
    let t = told-accepted _ _ c.in-Ok.ensures in
    tells_as (rw t.reads) (put-told c.put_items-next.ensures c.ending.ensures)
