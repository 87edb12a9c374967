-- `unite` meets its contract, whichever goes. Assumes nothing.
use mathlib.Core.Path.{sym}
use Rattle.meaning.specs.Following.{flip}
use Rattle.list_ways.proofs.Rings.{apart-flip}
use Rattle.list_add.proofs.unite.Goals as goal

pub lighter-requires : goal.lighter-requires
lighter-requires c = (c.requires.0.standing.long, c.requires.1.x-tag, c.requires.1.y-tag)

pub absorb-requires : goal.absorb-requires
absorb-requires c = c.requires

pub returns-then-lighter : goal.returns-then-lighter
returns-then-lighter c = c.absorb.ensures

pub absorb-requires-else-lighter : goal.absorb-requires-else-lighter
absorb-requires-else-lighter c = (c.requires.0, apart-flip c.requires.1, flip c.requires.2)

pub returns-else-lighter : goal.returns-else-lighter
returns-else-lighter c = let e = c.absorb-else-lighter.ensures in (e.0, sym e.1)
