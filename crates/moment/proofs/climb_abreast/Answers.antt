-- `moment::climb_abreast` meets its contract: a link on both sides is one of each depth. The measure is the tag of one side, since links lead
-- down. Assumes nothing.
use native.Mathlib.Omega.{arith}
use Rattle.moment.proofs.Steps.{compare-start, compare-step, compare-near, compare-far}
use Rattle.moment.proofs.climb_abreast.Goals as goal

pub loop-x-init : goal.loop-x-init
loop-x-init c = compare-start _ _ _ _ c.requires.top_le_most_tags.1 c.requires.top_le_most_tags.2

pub age-requires : goal.age-requires
age-requires c = (c.requires.forested.long, c.loop-x.invariant.x-tag)

pub age-requires-in-loop-x : goal.age-requires-in-loop-x
age-requires-in-loop-x c = (c.requires.forested.long, c.loop-x.invariant.y-tag)

pub returns-then-age-top : goal.returns-then-age-top
returns-then-age-top c = compare-far c.requires.forested c.requires.top_le_most_tags.0 c.loop-x.invariant (omega (arith, c.age-in-loop-x.ensures, c.if-age-top.true))

pub parent-x-requires : goal.parent-x-requires
parent-x-requires c = (c.requires.forested.long, c.loop-x.invariant.x-tag)

pub parent-y-requires : goal.parent-y-requires
parent-y-requires c = (c.requires.forested.long, c.loop-x.invariant.y-tag)

pub loop-x-smaller : goal.loop-x-smaller
loop-x-smaller c = (compare-step c.requires.forested c.requires.top_le_most_tags.0 c.loop-x.invariant (omega (arith, c.age.ensures, c.loop-x-test.true)) (omega (arith, c.age-in-loop-x.ensures, c.if-age-top.false)) c.parent-x.ensures c.parent-y.ensures).0

pub loop-x-preserved : goal.loop-x-preserved
loop-x-preserved c = (compare-step c.requires.forested c.requires.top_le_most_tags.0 c.loop-x.invariant (omega (arith, c.age.ensures, c.loop-x-test.true)) (omega (arith, c.age-in-loop-x.ensures, c.if-age-top.false)) c.parent-x.ensures c.parent-y.ensures).1

pub returns : goal.returns
returns c = compare-near c.requires.forested c.requires.top_le_most_tags.0 c.loop-x.invariant (omega (arith, c.age.ensures, c.loop-x-test.false))
