-- `text::ending` meets its contract: the two outcomes of the test are the two cases of the answer.
-- Assumes nothing.
use Rattle.text.specs.Told.{within, past}
use Rattle.text.proofs.ending.Goals as goal

pub returns-then-next-room : goal.returns-then-next-room
returns-then-next-room c = within c.if-next-room.true

pub returns-else-next-room : goal.returns-else-next-room
returns-else-next-room c = past c.if-next-room.false
