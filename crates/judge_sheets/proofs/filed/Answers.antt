-- `judge_sheets::filed` meets its contract: the numbers that are read are those of the reason, and their sheets are looked for behind it.
-- Assumes nothing.
use Rattle.judge_sheets.proofs.Behind.{listed-there, sheets-missing, sheets-there}
use Rattle.judge_sheets.proofs.filed.Goals as goal

pub is_sheets-requires : goal.is_sheets-requires
is_sheets-requires c = (listed-there c.requires.0 c.read_reason.ensures, c.requires.0.within)

pub returns-in-None : goal.returns-in-None
returns-in-None c = sheets-missing c.requires.0 c.read_reason.ensures c.requires.1 c.in-None.ensures

pub returns-in-Some : goal.returns-in-Some
returns-in-Some c = sheets-there c.requires.0 c.read_reason.ensures c.requires.1 c.in-Some.p c.in-Some.ensures
