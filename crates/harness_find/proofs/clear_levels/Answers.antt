-- `harness_find::clear_levels` meets its contract: the part that is lent comes back filled.
-- Assumes nothing.
use mathlib.Core.Path.{refl}
use Rattle.table_labels.proofs.Loops.{fills}
use Rattle.harness_find.proofs.Scanning.{blanked}
use Rattle.harness_find.proofs.clear_levels.Goals as goal

pub returns : goal.returns
returns c = blanked c.args.work.now _ c.fill.new.self c.requires c.fill.auto.self refl (fills _ _ c.fill.ensures.after)
