-- `text_field::put_intact` meets its contract: a letter and the end of the line.
-- Assumes nothing.
use mathlib.Core.List.{[]}
use Rattle.text_line.specs.Line.{parted}
use Rattle.text_line.proofs.Parted.{put_ended}
use Rattle.text_field.proofs.put_intact.Goals as goal

pub returns : goal.returns
unfolding parted
returns c = put_ended [] c.put-next.ensures c.put.ensures
