-- `sheets_walk::find_sheets` meets its contract: what is filed are the sheets of the list's records, and these are listed.
-- Assumes nothing.
use Rattle.sheets_walk.proofs.Found.{clear_of, listed-still, ready_of, found_of}
use Rattle.sheets_walk.proofs.find_sheets.Goals as goal

pub empty-requires : goal.empty-requires
empty-requires c = c.requires.long

pub file_listed-requires : goal.file_listed-requires
file_listed-requires c = (listed-still c.requires c.empty.ensures.kept, clear_of c.empty.ensures)

pub list_filed-requires : goal.list_filed-requires
list_filed-requires c = ready_of (listed-still c.requires c.empty.ensures.kept) c.file_listed.ensures

pub returns : goal.returns
returns c = found_of c.empty.ensures c.file_listed.ensures c.list_filed.ensures
