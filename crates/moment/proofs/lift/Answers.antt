-- `moment::lift` meets its contract: a link of the one that has them left is a link of the one that is lifted. The measure is the tag of the
-- first, since links lead down. Assumes nothing.
use native.Mathlib.Omega.{arith}
use Rattle.moment.proofs.Steps.{raise-start, raise-step, raise-end}
use Rattle.moment.proofs.lift.Goals as goal

pub loop-newest-init : goal.loop-newest-init
loop-newest-init c = raise-start c.requires.forested c.requires.top_le_most_tags.0 c.requires.top_le_most_tags.1 c.requires.top_le_most_tags.2

pub age-requires : goal.age-requires
age-requires c = (c.requires.forested.long, c.loop-newest.invariant.tag)

pub parent-y-requires : goal.parent-y-requires
parent-y-requires c = (c.requires.forested.long, c.loop-newest.invariant.tag)

pub age-newest-requires : goal.age-newest-requires
age-newest-requires c =
    let d = c.requires.top_le_most_tags.3 in
    (c.requires.forested.long, (c.loop-newest.invariant.raising d.more d.rest d.deep d.left).lifting.tag)

pub parent-x-requires : goal.parent-x-requires
parent-x-requires c =
    let d = c.requires.top_le_most_tags.3 in
    (c.requires.forested.long, (c.loop-newest.invariant.raising d.more d.rest d.deep d.left).lifting.tag)

pub loop-newest-smaller : goal.loop-newest-smaller
loop-newest-smaller c = (raise-step c.requires.forested c.requires.top_le_most_tags.0 c.loop-newest.invariant (omega (arith, c.age.ensures, c.loop-newest-test.true)) c.age-newest.ensures c.parent-x.ensures c.parent-y.ensures).0

pub loop-newest-preserved : goal.loop-newest-preserved
loop-newest-preserved c = (raise-step c.requires.forested c.requires.top_le_most_tags.0 c.loop-newest.invariant (omega (arith, c.age.ensures, c.loop-newest-test.true)) c.age-newest.ensures c.parent-x.ensures c.parent-y.ensures).1

pub returns : goal.returns
returns c = raise-end c.loop-newest.invariant (omega (arith, c.age.ensures, c.loop-newest-test.false))
