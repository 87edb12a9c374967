-- `reason_follow::note` meets its contract. The part that is lent is the region of the labels, and comes back mapped. Assumes nothing.
use mathlib.Core.Path.{refl}
use Rattle.reason_follow.proofs.Shown.{noted}
use Rattle.reason_follow.proofs.note.Goals as goal

pub returns : goal.returns
returns c = noted c.args.work.now _ c.rename.new.part c.args.x.0 c.args.y.0 _ _ c.requires.0 c.label-a.ensures c.label-b.ensures refl c.rename.ensures
