-- `blank_each` meets its contract: the part that is lent comes back as noughts. Assumes nothing.
use mathlib.Core.Path.{refl}
use Rattle.table_labels.proofs.Loops.{fills}
use Rattle.list_halve.proofs.Steps.{blanked}
use Rattle.list_halve.proofs.blank_each.Goals as goal

pub returns : goal.returns
returns c = let p = c.requires in blanked c.args.work.now _ c.fill.new.self p.0 p.1 p.2 p.3 c.fill.auto.self refl (fills _ _ c.fill.ensures.after)
