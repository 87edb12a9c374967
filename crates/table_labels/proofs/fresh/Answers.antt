-- `fresh` meets its contract. The part that is lent is the region of the labels, and comes back counting up from 0.
-- Assumes nothing.
use mathlib.Core.Path.{refl}
use Rattle.table_labels.proofs.Views.{freshened}
use Rattle.table_labels.proofs.fresh.Goals as goal

pub returns : goal.returns
returns c = freshened c.args.work.now _ c.count_up.new.part c.requires c.count_up.auto.part refl c.count_up.ensures
