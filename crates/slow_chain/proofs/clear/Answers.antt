-- `clear` meets its contract. The part that is lent holds the links and the heads, and comes back as noughts.
-- Assumes nothing.
use mathlib.Core.Path.{refl}
use Rattle.table_labels.proofs.Loops.{fills}
use Rattle.slow_chain.proofs.Views.{cleared}
use Rattle.slow_chain.proofs.clear.Goals as goal

pub returns : goal.returns
returns c = cleared c.args.work.now _ c.fill.new.self c.requires c.fill.auto.self refl (fills _ _ c.fill.ensures.after)
