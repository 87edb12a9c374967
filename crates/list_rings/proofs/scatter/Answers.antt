-- `scatter` meets its contract, tag by tag. Assumes nothing.
use native.Mathlib.Omega.{arith}
use native.Mathlib.Numerals.{add-one}
use Rattle.list_rings.proofs.Linking.{scattering-start, scattering-more, scattered}
use Rattle.list_rings.proofs.scatter.Goals as goal

pub loop-x-init : goal.loop-x-init
loop-x-init c = scattering-start c.requires

pub tag_at-requires : goal.tag_at-requires
tag_at-requires c = omega (arith, c.loop-x-test.true)

pub part_off-requires : goal.part_off-requires
part_off-requires c = (omega (arith, c.loop-x.invariant.long, c.loop-x.invariant.kept.size), omega (arith, c.tag_at.ensures, c.loop-x-test.true))

pub loop-x-preserved : goal.loop-x-preserved
loop-x-preserved c = rw add-one (scattering-more c.loop-x-test.true c.tag_at.ensures c.loop-x.invariant c.part_off.ensures)

pub returns : goal.returns
returns c = scattered (omega (arith, c.loop-x-test.false)) c.loop-x.invariant
