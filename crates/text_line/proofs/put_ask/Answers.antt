-- `text_line::put_ask` meets its contract. Each arm puts the line that the definition gives for equal or for different leaders.
-- Assumes nothing.
use Rattle.text_line.proofs.Puts.{put_as}
use Rattle.text_line.proofs.Parted.{ask_line-same, ask_line-apart}
use Rattle.text_line.proofs.put_ask.Goals as goal

pub returns-then-l-m : goal.returns-then-l-m
returns-then-l-m c = put_as (ask_line-same _ _ _ _ c.if-l-m.true) c.put_line.ensures

pub returns-else-l-m : goal.returns-else-l-m
returns-else-l-m c = put_as (ask_line-apart _ _ _ _ c.if-l-m.false) c.put_line-else-l-m.ensures
