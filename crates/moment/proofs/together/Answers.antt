-- `moment::together` meets its contract: a link on both sides keeps the two at one depth. The measure is the tag of one side, since links
-- lead down. Assumes nothing.
use borrow.Author.Tests.{eqb-false, eqb-true}
use mathlib.Core.Path.{sym, ◌∙◌}
use native.Mathlib.Omega.{arith}
use Rattle.moment.proofs.Steps.{pairing_step, beside-never, beside_end}
use Rattle.std.proofs.lemmas.Bool.{not-false, not-true}
use Rattle.moment.proofs.together.Goals as goal

pub loop-x-init : goal.loop-x-init
loop-x-init c = record { pair = c.requires.top_le_most_tags.1; on = λ c t h. h }

pub age-a-requires : goal.age-a-requires
age-a-requires c = (c.requires.forested.long, c.loop-x.invariant.pair.beside.x-tag)

pub age-b-requires : goal.age-b-requires
age-b-requires c = (c.requires.forested.long, c.loop-x.invariant.pair.beside.y-tag)

pub returns-then-a-top : goal.returns-then-a-top
returns-then-a-top c = record { met = λ u v h. beside-never c.requires.forested c.requires.top_le_most_tags.0 (c.loop-x.invariant.on u v h) (eqb-false _ _ (not-true _ (sym c.ne.ensures ∙ c.loop-x-test.true))) c.age-a.ensures (omega (arith, c.if-a-top.true)) }

pub parent-x-requires : goal.parent-x-requires
parent-x-requires c = (c.requires.forested.long, c.loop-x.invariant.pair.beside.x-tag)

pub parent-y-requires : goal.parent-y-requires
parent-y-requires c = (c.requires.forested.long, c.loop-x.invariant.pair.beside.y-tag)

pub loop-x-smaller : goal.loop-x-smaller
loop-x-smaller c = (pairing_step c.requires.forested c.requires.top_le_most_tags.0 c.loop-x.invariant (eqb-false _ _ (not-true _ (sym c.ne.ensures ∙ c.loop-x-test.true))) c.age-a.ensures c.age-b.ensures (omega (arith, c.if-a-top.false)) c.max-newest.ensures c.parent-x.ensures c.parent-y.ensures).0

pub loop-x-preserved : goal.loop-x-preserved
loop-x-preserved c = (pairing_step c.requires.forested c.requires.top_le_most_tags.0 c.loop-x.invariant (eqb-false _ _ (not-true _ (sym c.ne.ensures ∙ c.loop-x-test.true))) c.age-a.ensures c.age-b.ensures (omega (arith, c.if-a-top.false)) c.max-newest.ensures c.parent-x.ensures c.parent-y.ensures).1

pub returns : goal.returns
returns c = record { met = λ u v h. beside_end c.requires.forested c.requires.top_le_most_tags.0 (c.loop-x.invariant.on u v h) (eqb-true _ _ (not-false _ (sym c.ne.ensures ∙ c.loop-x-test.false))) }
