-- `begin` meets its contract. Assumes nothing.
use Rattle.list_add.proofs.Files.{filing-start, begun}
use Rattle.list_add.proofs.begin.Goals as goal

pub scatter-requires : goal.scatter-requires
scatter-requires c = c.requires.loaded.long

pub wipe-requires : goal.wipe-requires
wipe-requires c = c.scatter.ensures.standing.long

pub file_each-requires : goal.file_each-requires
file_each-requires c = filing-start c.requires c.scatter.ensures c.wipe.ensures

pub weigh_each-requires : goal.weigh_each-requires
weigh_each-requires c = c.file_each.ensures.0

pub returns : goal.returns
returns c = begun c.scatter.ensures c.wipe.ensures c.file_each.ensures.1 c.file_each.ensures.0 c.weigh_each.ensures
