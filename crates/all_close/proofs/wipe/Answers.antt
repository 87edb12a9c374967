-- `wipe` meets its contract. The part that is lent is all behind the columns, and comes back as noughts.
-- Assumes nothing.
use mathlib.Core.Path.{refl}
use Rattle.table_labels.proofs.Loops.{fills}
use Rattle.all_close.proofs.Moments.{wiped}
use Rattle.all_close.proofs.wipe.Goals as goal

pub returns : goal.returns
returns c = wiped c.args.work.now _ c.fill.new.self c.requires c.fill.auto.self refl (fills _ _ c.fill.ensures.after)
