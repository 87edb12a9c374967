-- `answer_sheets::file_sheets` meets its contract: in edition 2 the sheets are laid, in edition 1 nothing is.
-- Assumes nothing.
use mathlib.Core.Path.{◌∙◌}
use Rattle.answer_sheets.proofs.Filing.{unfiled-at, filed-at}
use Rattle.answer_sheets.proofs.file_sheets.Goals as goal

pub write_sheets-requires : goal.write_sheets-requires
write_sheets-requires c = (c.requires.listed, c.requires.fits c.if-sheeted.true)

pub returns-then-sheeted : goal.returns-then-sheeted
returns-then-sheeted c = filed-at (c.requires.edition ∙ c.if-sheeted.true) c.write_sheets.ensures

pub returns-else-sheeted : goal.returns-else-sheeted
returns-else-sheeted c = unfiled-at (c.requires.edition ∙ c.if-sheeted.false)
