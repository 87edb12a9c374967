-- `text_line::put_line` meets its contract: a line that was begun with all its numbers, and its end.
-- Assumes nothing.
use Rattle.text_line.proofs.Parted.{put_ended}
use Rattle.text_line.proofs.put_line.Goals as goal

pub returns : goal.returns
returns c = put_ended _ c.put_begun-next.ensures c.put.ensures
