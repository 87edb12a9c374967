-- `text_line::put_parted` meets its contract: the space and the digits, put one after the other, are the parted number.
-- Assumes nothing.
use Rattle.text_line.proofs.Puts.{put_then, put_as}
use Rattle.text_line.proofs.Parted.{parted-one}
use Rattle.text_line.proofs.put_parted.Goals as goal

pub returns : goal.returns
returns c = put_as (parted-one _) (put_then c.put-next.ensures c.put_number.ensures)
