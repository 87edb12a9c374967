-- `seek_class` meets its contract: each turn looks among the uses of one more tag, on the way back to x. Assumes nothing.
use borrow.Author.Tests.{eqb-false, eqb-true}
use mathlib.Core.Path.{sym, ◌∙◌}
use Rattle.list_add.proofs.Seeks.{searching-start, searching-tag, searching-more, searching-found, searching-end}
use Rattle.std.proofs.lemmas.Bool.{not-false, not-true}
use Rattle.list_add.proofs.seek_class.Goals as goal

pub member-z-requires : goal.member-z-requires
member-z-requires c = (c.requires.1.long, c.requires.1.tag)

pub loop-z-init : goal.loop-z-init
loop-z-init c = searching-start c.requires.1 c.member-z.ensures

pub seek_uses-p-requires : goal.seek_uses-p-requires
seek_uses-p-requires c = (c.requires.0, searching-tag (eqb-false _ _ (not-true _ (sym c.ne.ensures ∙ c.loop-z-test.true))) c.loop-z.invariant)

pub returns-then-p-ne0 : goal.returns-then-p-ne0
returns-then-p-ne0 c = searching-found c.seek_uses-p.ensures c.if-p-ne0.true

pub member-z-requires-in-loop-z : goal.member-z-requires-in-loop-z
member-z-requires-in-loop-z c = (c.requires.1.long, searching-tag (eqb-false _ _ (not-true _ (sym c.ne.ensures ∙ c.loop-z-test.true))) c.loop-z.invariant)

pub loop-z-smaller : goal.loop-z-smaller
loop-z-smaller c = (searching-more (eqb-false _ _ (not-true _ (sym c.ne.ensures ∙ c.loop-z-test.true))) c.loop-z.invariant c.seek_uses-p.ensures c.if-p-ne0.false c.member-z-in-loop-z.ensures).1

pub loop-z-preserved : goal.loop-z-preserved
loop-z-preserved c = (searching-more (eqb-false _ _ (not-true _ (sym c.ne.ensures ∙ c.loop-z-test.true))) c.loop-z.invariant c.seek_uses-p.ensures c.if-p-ne0.false c.member-z-in-loop-z.ensures).0

pub seek_uses-requires : goal.seek_uses-requires
seek_uses-requires c = (c.requires.0, c.requires.1.tag)

pub returns : goal.returns
returns c = searching-end (eqb-true _ _ (not-false _ (sym c.ne.ensures ∙ c.loop-z-test.false))) c.loop-z.invariant c.seek_uses.ensures
