-- `text::tell_refusal` meets its contract: what was put from the room's first byte on is the line, and its end tells whether it fits.
-- Assumes nothing.
use Rattle.text.specs.Lines.{refusal_line}
use Rattle.text.proofs.Putting.{put-told}
use Rattle.text.proofs.tell_refusal.Goals as goal

pub returns : goal.returns
unfolding refusal_line
returns c = put-told c.put_pair-next.ensures c.ending.ensures
