-- `part` meets its contract: the rings are parted by the same exchange, and the ring of x gets its label back. Assumes nothing.
use Rattle.list_rings.proofs.Linking.{part_room, part-tag, part-other, part-ringed, unlinked}
use Rattle.list_rings.proofs.part.Goals as goal

pub trail-x-requires : goal.trail-x-requires
trail-x-requires c = (c.requires.long, part_room c.requires)

pub label-y-requires : goal.label-y-requires
label-y-requires c = (c.requires.long, rw c.trail-x.ensures (part-tag c.requires))

pub split-requires : goal.split-requires
split-requires c = let s = c.requires in (s.long, rw c.trail-x.ensures (part-tag s), rw (c.label-y.ensures, c.trail-x.ensures) (part-other s))

pub name-requires : goal.name-requires
name-requires c = rw c.trail-x.ensures (part-ringed c.requires (rw (c.label-y.ensures, c.trail-x.ensures) at c.split.ensures))

pub returns : goal.returns
returns c = unlinked c.requires (rw (c.label-y.ensures, c.trail-x.ensures) at c.split.ensures) (rw c.trail-x.ensures at c.name.ensures)
