-- `reason_follow::unmark_all` meets its contract: the part that is lent comes back as noughts. Assumes nothing.
use mathlib.Core.Path.{refl}
use Rattle.table_labels.proofs.Loops.{fills}
use Rattle.reason_follow.proofs.Crossing.{unmarked}
use Rattle.reason_follow.proofs.unmark_all.Goals as goal

pub returns : goal.returns
returns c = unmarked c.args.work.now _ c.fill.new.self c.requires.0 c.requires.1 c.fill.auto.self refl (fills _ _ c.fill.ensures.after)
