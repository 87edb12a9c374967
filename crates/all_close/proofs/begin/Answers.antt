-- `begin` meets its contract. Each of the four parts that are written behind the clearing is outside the others.
-- Assumes nothing.
use native.Mathlib.Omega.{arith}
use mathlib.Core.Path.{refl}
use Rattle.table_labels.proofs.Loops.{fills}
use Rattle.all_close.proofs.Moments.{begun, begun-after}
use Rattle.all_close.proofs.begin.Goals as goal

pub returns : goal.returns
returns c =
    begun-after c.wipe.ensures.frame
    (begun c.fill.new.self c.count_up.new.part (omega (arith, c.wipe.ensures.frame.size, c.requires)) c.unlink.ensures c.count_up.auto.part refl c.count_up.ensures c.fresh.ensures c.fill.auto.self refl (fills _ _ c.fill.ensures.after))
