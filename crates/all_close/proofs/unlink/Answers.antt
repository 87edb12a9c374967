-- `unlink` meets its contract. The part that is lent is the region of the ages, and comes back filled.
-- Assumes nothing.
use mathlib.Core.Path.{refl}
use Rattle.table_labels.proofs.Loops.{fills}
use Rattle.all_close.proofs.Moments.{unlinked}
use Rattle.all_close.proofs.unlink.Goals as goal

pub returns : goal.returns
returns c = unlinked c.args.work.now _ c.fill.new.self c.requires c.fill.auto.self refl (fills _ _ c.fill.ensures.after)
