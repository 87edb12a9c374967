-- `turn` meets its contract.
-- Assumes nothing.
use Rattle.slow_close.proofs.Passing.{turned, saved-as}
use Rattle.slow_close.proofs.turn.Goals as goal

pub pass-joined-requires : goal.pass-joined-requires
pass-joined-requires c = saved-as c.requires c.save.ensures

pub returns : goal.returns
returns c = turned c.save.ensures c.pass-joined.ensures c.restore.ensures
