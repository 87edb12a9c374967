-- `call_look::give_back` meets its contract: it clears where the lengths were right, and else does nothing.
-- Assumes nothing.
use Rattle.call_look.proofs.Clearing.{returned-cleared, returned-kept}
use Rattle.call_look.proofs.give_back.Goals as goal

pub clear-requires : goal.clear-requires
clear-requires c = c.requires c.if-lent.true

pub returns-then-lent : goal.returns-then-lent
returns-then-lent c = returned-cleared c.if-lent.true c.clear.ensures

pub returns-else-lent : goal.returns-else-lent
returns-else-lent c = returned-kept c.if-lent.false
