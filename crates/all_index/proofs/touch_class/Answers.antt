-- `touch_class` meets its contract. Every tag that is labelled so stands between the first and the top, so all were gone by.
-- Assumes nothing.
use native.Mathlib.Omega.{arith}
use Rattle.all_index.proofs.Sweeping.{touched-indexed, swept_step, swept_all}
use Rattle.all_index.proofs.touch_class.Goals as goal

pub touch_labelled-to-requires : goal.touch_labelled-to-requires
touch_labelled-to-requires c = (touched-indexed c.requires.0 c.loop-x.invariant.touched, omega arith)

pub loop-x-preserved : goal.loop-x-preserved
loop-x-preserved c =
    let l = c.loop-x in
    let e = c.touch_labelled-to in
    swept_step l.x l.to e.result l.invariant e.ensures.0 (rw c.tag_at.ensures at e.ensures.1)

pub returns : goal.returns
returns c =
    let l = c.loop-x in
    (l.invariant.touched, swept_all l.x l.to c.requires.2 (omega arith) l.invariant)
