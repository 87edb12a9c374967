-- `reason_follow::rest` meets its contract: a join of two applications rests on its two argument pairs, any other on nothing. Assumes nothing.
use borrow.Author.Tests.{eqb-false, eqb-true}
use mathlib.Core.Path.{sym, ◌∙◌}
use Rattle.reason_follow.proofs.Crossing.{holds-ranged, kept-together, caused-lefts, caused-rights}
use Rattle.reason_follow.proofs.Sweep.{rested-unmarked, rested-one, rested-two}
use Rattle.reason_follow.proofs.rest.Goals as goal

pub mark-requires : goal.mark-requires
mark-requires c = (c.requires.0.past.loaded.long, (holds-ranged c.requires.0).age)

pub returns-then-mark-ne1 : goal.returns-then-mark-ne1
returns-then-mark-ne1 c = rested-unmarked c.requires.1 (λ e. c.if-mark-ne1.true (c.mark.ensures ∙ e))

pub causes_of-k-requires : goal.causes_of-k-requires
causes_of-k-requires c = c.requires.0

pub returns-then-eq : goal.returns-then-eq
returns-then-eq c = rested-one c.requires.1 c.causes_of-k.ensures (eqb-true _ _ (sym c.eq.ensures ∙ c.if-eq.true))

pub pass-requires : goal.pass-requires
pass-requires c = (caused-lefts c.requires.0 c.causes_of-k.ensures (eqb-false _ _ (sym c.eq.ensures ∙ c.if-eq.false)), c.requires.1)

pub pass-requires-2 : goal.pass-requires-2
pass-requires-2 c = (kept-together c.pass.ensures.kept (caused-rights c.requires.0 c.causes_of-k.ensures (eqb-false _ _ (sym c.eq.ensures ∙ c.if-eq.false))), c.pass.ensures.remembers)

pub returns : goal.returns
returns c = rested-two c.causes_of-k.ensures (eqb-false _ _ (sym c.eq.ensures ∙ c.if-eq.false)) (sym c.mark.ensures ∙ c.if-mark-ne1.false) c.pass.ensures c.pass-2.ensures
