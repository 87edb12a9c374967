-- `matches` meets its contract. Assumes nothing.
use mathlib.Core.Path.{sym, ◌∙◌}
use mathlib.Core.Bool.{true≢false}
use borrow.Author.Tests.{eq-eqb, eqb-false, eqb-true}
use Rattle.list_add.proofs.Seeks.{legible-left, legible-right, legible-place, match-left, match-right}
use Rattle.std.proofs.lemmas.Bool.{not-false, not-true}
use Rattle.list_add.proofs.matches.Goals as goal

pub queued-requires : goal.queued-requires
queued-requires c = (c.requires.0.falling.long, c.requires.1)

pub returns-then-queued-ne1 : goal.returns-then-queued-ne1
returns-then-queued-ne1 c = ((λ e. absurd (true≢false (sym e))), λ m. absurd (c.if-queued-ne1.true (c.queued.ensures ∙ m.rests)))

pub placed-r-requires : goal.placed-r-requires
placed-r-requires c = (c.requires.0.falling.long, c.requires.1)

pub left-x-requires : goal.left-x-requires
left-x-requires c = (c.requires.0.falling.long, legible-place c.args.i c.requires.0 (sym c.queued.ensures ∙ c.if-queued-ne1.false) c.placed-r.ensures)

pub right-y-requires : goal.right-y-requires
right-y-requires c = (c.requires.0.falling.long, legible-place c.args.i c.requires.0 (sym c.queued.ensures ∙ c.if-queued-ne1.false) c.placed-r.ensures)

pub label-s-requires : goal.label-s-requires
label-s-requires c = (c.requires.0.falling.long, legible-left c.args.i c.requires.0 (sym c.queued.ensures ∙ c.if-queued-ne1.false) c.placed-r.ensures c.left-x.ensures)

pub returns-then-ne : goal.returns-then-ne
returns-then-ne c = ((λ e. absurd (true≢false (sym e))), λ m. absurd (eqb-false _ _ (not-true _ (sym c.ne.ensures ∙ c.if-ne.true)) (match-left c.args.work.now c.args.i c.placed-r.ensures c.left-x.ensures c.label-s.ensures ∙ m.left)))

pub label-t-requires : goal.label-t-requires
label-t-requires c = (c.requires.0.falling.long, legible-right c.args.i c.requires.0 (sym c.queued.ensures ∙ c.if-queued-ne1.false) c.placed-r.ensures c.right-y.ensures)

pub returns : goal.returns
returns c =
    let l = match-left c.args.work.now c.args.i c.placed-r.ensures c.left-x.ensures c.label-s.ensures in
    let r = match-right c.args.work.now c.args.i c.placed-r.ensures c.right-y.ensures c.label-t.ensures in
    ((λ e. record { rests = sym c.queued.ensures ∙ c.if-queued-ne1.false; left = sym l ∙ eqb-true _ _ (not-false _ (sym c.ne.ensures ∙ c.if-ne.false)); right = sym r ∙ eqb-true _ _ (sym c.eq.ensures ∙ e) }), λ m. c.eq.ensures ∙ eq-eqb _ _ (r ∙ m.right))
