-- `equate` meets its contract.
-- Assumes nothing.
use Rattle.slow_chain.proofs.Rows.{row-most}
use Rattle.slow_close.proofs.Going.{equate-asks, equate-done}
use Rattle.slow_close.proofs.equate.Goals as goal

pub returns : goal.returns
returns c = let p = c.requires in equate-done p.0 p.1 p.2 c.left-s.ensures c.right-t.ensures c.meet_new.ensures
