-- `apply` meets its contract.
-- Assumes nothing.
use native.Mathlib.Omega.{arith}
use mathlib.Core.Path.{ap, sym, ◌∙◌}
use Rattle.table_labels.specs.Chain.{as_link}
use Rattle.slow_close.proofs.Going.{finding, found-room, apply-insert}
use Rattle.slow_close.proofs.apply.Goals as goal

pub returns-in-None : goal.returns-in-None
returns-in-None c = let p = c.requires in apply-insert p.0 p.1 _ _ _ c.find-f.ensures.0 c.find-f.ensures.1 (ap as_link c.in-None.is) c.insert.ensures
