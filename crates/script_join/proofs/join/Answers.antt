use mathlib.Core.Path.{sym, ◌∙◌}
use Rattle.script_join.proofs.Laws.{joins-whole, joins_part}
use Rattle.script_join.proofs.join.Goals as goal
use Rattle.script_join.proofs.join.Goals.{then-whole, else-whole}

pub returns-then-fits : goal.returns-then-fits
returns-then-fits c = elim c.if-whole.branch [ then-whole w ↦ joins-whole c.meet-made.ensures w.if-whole.true | else-whole w ↦ joins_part c.meet-made.ensures w.if-whole.false (sym c.if-fits.true ∙ w.value-is ∙ w.fits.ensures) ]

pub returns-else-fits : goal.returns-else-fits
returns-else-fits c = elim c.if-whole.branch [ then-whole w ↦ (cc) | else-whole w ↦ joins_part c.meet-made.ensures w.if-whole.false (sym c.if-fits.false ∙ w.value-is ∙ w.fits.ensures) ]
