-- `relabel` meets its contract: a choice of values is `into`, and the loop maps.
-- Assumes nothing.
use Rattle.std.proofs.Common.{◌≡◌, ◌<◌, sym, ◌∙◌, get_or, length, arith}
use Rattle.std.proofs.lemmas.List.Edits.{map_over_more}
use Rattle.std.proofs.lemmas.Grind.{get_or_default_zero}
use Rattle.meaning.specs.Labels.{into}
use Rattle.meaning.proofs.Relabel.{into-hit, into-miss}
use Rattle.table_labels.proofs.relabel.Goals as goal
use Rattle.table_labels.proofs.relabel.Goals.{then-x-hi, else-x-hi}

pub loop-x-preserved : goal.loop-x-preserved
loop-x-preserved c =
    let a = c.args in
    let here : c.if-x-hi.x ≡ into a.lo a.hi (get_or c.loop-x.part c.loop-x.x-index 0) =
    elim c.if-x-hi.branch [ then-x-hi w ↦ w.x-is ∙ sym (rw w.if-x-hi.true (into-hit a.lo a.hi)) | else-x-hi w ↦ w.x-is ∙ sym (into-miss _ _ _ w.if-x-hi.false) ] in
    let long : c.loop-x.x-index < length c.loop-x.part = omega arith in
    rw here (map_over_more (into a.lo a.hi) a.part.now c.loop-x.part c.loop-x.x-index _ c.loop-x-test.true c.loop-x.invariant (sym (get_or_default_zero _ _ _ long)))
