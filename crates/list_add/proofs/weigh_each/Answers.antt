-- `weigh_each` meets its contract: only weights are written. Assumes nothing.
use Rattle.table.proofs.Frame.{within-refl, within-trans}
use Rattle.list_add.proofs.Files.{weighed}
use Rattle.list_add.proofs.weigh_each.Goals as goal

pub loop-i-init : goal.loop-i-init
loop-i-init c = (c.requires, within-refl _)

pub weigh-requires : goal.weigh-requires
weigh-requires c = (c.loop-i.invariant.0, c.loop-i-test.true)

pub loop-i-preserved : goal.loop-i-preserved
loop-i-preserved c = (weighed c.weigh.ensures c.loop-i.invariant.0, within-trans c.loop-i.invariant.1 c.weigh.ensures)

pub returns : goal.returns
returns c = c.loop-i.invariant.1
