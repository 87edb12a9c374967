-- `join` meets its contract: the ring of x is labelled, the rings are made one, and the trail grows. Assumes nothing.
use native.Mathlib.Omega.{arith}
use Rattle.list_rings.proofs.Linking.{standing-classes, ringed-of, join-room, linked}
use Rattle.list_rings.proofs.join.Goals as goal

pub name-requires : goal.name-requires
name-requires c = let s = c.requires in ringed-of s.0.long s.1.x-tag (standing-classes s.0) s.1.x-own

pub merge-requires : goal.merge-requires
merge-requires c = let s = c.requires in (omega (arith, s.0.long, c.name.ensures.kept.size), s.1.x-tag, s.1.y-tag)

pub put_trail-requires : goal.put_trail-requires
put_trail-requires c = let s = c.requires in (omega (arith, s.0.long, c.name.ensures.kept.size, c.merge.ensures.kept.size), omega (arith, join-room s.0 s.1))

pub returns : goal.returns
returns c = let s = c.requires in linked s.0 s.1 c.name.ensures c.merge.ensures c.put_trail.ensures
