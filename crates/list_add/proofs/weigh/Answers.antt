-- `weigh` meets its contract: only weights are written. Assumes nothing.
use native.Mathlib.Omega.{arith}
use Rattle.table.proofs.Frame.{within-trans}
use Rattle.list_add.proofs.Files.{listed-tags}
use Rattle.list_add.proofs.weigh.Goals as goal

pub placed-r-requires : goal.placed-r-requires
placed-r-requires c = (c.requires.0.standing.long, omega (arith, c.requires.1, c.requires.0.listing.short))

pub left-x-requires : goal.left-x-requires
left-x-requires c = (c.requires.0.standing.long, rw c.placed-r.ensures (listed-tags c.requires.0.listing _ c.requires.1).0)

pub right-y-requires : goal.right-y-requires
right-y-requires c = (c.requires.0.standing.long, rw c.placed-r.ensures (listed-tags c.requires.0.listing _ c.requires.1).0)

pub burden-requires : goal.burden-requires
burden-requires c = (c.requires.0.standing.long, rw (c.left-x.ensures, c.placed-r.ensures) (listed-tags c.requires.0.listing _ c.requires.1).1)

pub burden-requires-2 : goal.burden-requires-2
burden-requires-2 c = (omega (arith, c.burden.ensures.size, c.requires.0.standing.long), rw (c.right-y.ensures, c.placed-r.ensures) (listed-tags c.requires.0.listing _ c.requires.1).2)

pub returns : goal.returns
returns c = within-trans c.burden.ensures c.burden-2.ensures
