-- `translate` meets its contract: the record table is cleared where the lengths were right, and else is as it was.
-- Assumes nothing.
use mathlib.Core.Path.{sym, ◌∙◌}
use Rattle.haltzurme_script.proofs.Clearing.{rested-places, rested-cleared, rested-kept}
use Rattle.haltzurme_script.proofs.translate.Goals as goal

pub clear-requires : goal.clear-requires
clear-requires c = rested-places c.args.records.now c.translate_beside-made.ensures (sym c.is_lent.ensures ∙ c.if-is_lent.true)

pub returns-then-is_lent : goal.returns-then-is_lent
returns-then-is_lent c = rested-cleared c.args.records.now c.translate_beside-made.ensures (sym c.is_lent.ensures ∙ c.if-is_lent.true) c.clear.ensures

pub returns-else-is_lent : goal.returns-else-is_lent
returns-else-is_lent c = rested-kept c.args.records.now c.translate_beside-made.ensures (sym c.is_lent.ensures ∙ c.if-is_lent.false)
