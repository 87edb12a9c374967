-- `wipe` meets its contract: the part that is lent comes back as noughts. Assumes nothing.
use mathlib.Core.Path.{refl}
use Rattle.table_labels.proofs.Loops.{fills}
use Rattle.list_add.proofs.Files.{wiped}
use Rattle.list_add.proofs.wipe.Goals as goal

pub returns : goal.returns
returns c = wiped c.args.work.now _ c.fill.new.self c.requires c.fill.auto.self refl (fills _ _ c.fill.ensures.after)
