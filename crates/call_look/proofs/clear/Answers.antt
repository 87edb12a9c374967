-- `call_look::clear` meets its contract: the part that is filled with zero is the named places, and what lies behind it is not lent on.
-- Assumes nothing.
use Rattle.table_labels.proofs.Loops.{fills}
use Rattle.call_look.proofs.Clearing.{cleared-part}
use Rattle.call_look.proofs.clear.Goals as goal

pub returns : goal.returns
returns c = cleared-part c.args.work.now c.fill.new.self c.requires c.fill.auto.self (fills _ 0 c.fill.ensures.after)
