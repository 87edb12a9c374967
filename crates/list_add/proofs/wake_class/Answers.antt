-- `wake_class` meets its contract: each turn wakes those that use one more tag, on the way back to x. Assumes nothing.
use borrow.Author.Tests.{eqb-false, eqb-true}
use mathlib.Core.Path.{sym, ◌∙◌}
use native.Mathlib.Omega.{arith}
use Rattle.list_add.proofs.Wakes.{falling-same}
use Rattle.list_add.proofs.Seeks.{rousing-start, rousing-tag, rousing-more, rousing-end}
use Rattle.std.proofs.lemmas.Bool.{not-false, not-true}
use Rattle.list_add.proofs.wake_class.Goals as goal

pub member-z-requires : goal.member-z-requires
member-z-requires c = (c.requires.0.long, c.requires.1.tag)

pub loop-z-init : goal.loop-z-init
loop-z-init c = rousing-start c.requires.1 c.requires.2 c.member-z.ensures

pub wake_tag-made-requires : goal.wake_tag-made-requires
wake_tag-made-requires c = let v = c.loop-z.invariant in (falling-same v.woken.kept c.requires.0, rousing-tag (eqb-false _ _ (not-true _ (sym c.ne.ensures ∙ c.loop-z-test.true))) v, v.woken.low)

pub member-z-requires-in-loop-z : goal.member-z-requires-in-loop-z
member-z-requires-in-loop-z c = let v = c.loop-z.invariant in (omega (arith, v.woken.kept.size, c.wake_tag-made.ensures.0.kept.size, c.requires.0.long), rousing-tag (eqb-false _ _ (not-true _ (sym c.ne.ensures ∙ c.loop-z-test.true))) v)

pub loop-z-smaller : goal.loop-z-smaller
loop-z-smaller c = (rousing-more (eqb-false _ _ (not-true _ (sym c.ne.ensures ∙ c.loop-z-test.true))) c.loop-z.invariant c.wake_tag-made.ensures c.member-z-in-loop-z.ensures).1

pub loop-z-preserved : goal.loop-z-preserved
loop-z-preserved c = (rousing-more (eqb-false _ _ (not-true _ (sym c.ne.ensures ∙ c.loop-z-test.true))) c.loop-z.invariant c.wake_tag-made.ensures c.member-z-in-loop-z.ensures).0

pub wake_tag-requires : goal.wake_tag-requires
wake_tag-requires c = let v = c.loop-z.invariant in (falling-same v.woken.kept c.requires.0, c.requires.1.tag, v.woken.low)

pub returns : goal.returns
returns c = rousing-end (eqb-true _ _ (not-false _ (sym c.ne.ensures ∙ c.loop-z-test.false))) c.loop-z.invariant c.wake_tag.ensures
