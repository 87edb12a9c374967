-- `name` meets its contract: each turn labels one more, on the way back to x. Assumes nothing.
use borrow.Author.Tests.{eqb-false, eqb-true}
use mathlib.Core.Path.{sym, ◌∙◌}
use Rattle.list_rings.proofs.Linking.{naming-start, naming-tag, naming-long, naming-more, naming-less, naming-step, naming-end}
use Rattle.std.proofs.lemmas.Bool.{not-false, not-true}
use Rattle.list_rings.proofs.name.Goals as goal

pub member-z-requires : goal.member-z-requires
member-z-requires c = (c.requires.long, c.requires.tag)

pub loop-z-init : goal.loop-z-init
loop-z-init c = naming-start c.requires c.member-z.ensures

pub put_label-requires : goal.put_label-requires
put_label-requires c = (naming-long c.loop-z.invariant, naming-tag (eqb-false _ _ (not-true _ (sym c.ne.ensures ∙ c.loop-z-test.true))) c.loop-z.invariant)

pub loop-z-preserved : goal.loop-z-preserved
loop-z-preserved c = naming-more (eqb-false _ _ (not-true _ (sym c.ne.ensures ∙ c.loop-z-test.true))) c.loop-z.invariant c.put_label.ensures c.member-z-in-loop-z.ensures

pub member-z-requires-in-loop-z : goal.member-z-requires-in-loop-z
member-z-requires-in-loop-z c = (naming-step (eqb-false _ _ (not-true _ (sym c.ne.ensures ∙ c.loop-z-test.true))) c.loop-z.invariant c.put_label.ensures, naming-tag (eqb-false _ _ (not-true _ (sym c.ne.ensures ∙ c.loop-z-test.true))) c.loop-z.invariant)

pub loop-z-smaller : goal.loop-z-smaller
loop-z-smaller c = naming-less (eqb-false _ _ (not-true _ (sym c.ne.ensures ∙ c.loop-z-test.true))) c.loop-z.invariant c.put_label.ensures c.member-z-in-loop-z.ensures

pub put_label-requires-2 : goal.put_label-requires-2
put_label-requires-2 c = (naming-long c.loop-z.invariant, c.loop-z.invariant.tag)

pub returns : goal.returns
returns c = naming-end (eqb-true _ _ (not-false _ (sym c.ne.ensures ∙ c.loop-z-test.false))) c.loop-z.invariant c.put_label-2.ensures
