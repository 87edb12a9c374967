-- `add_equation` meets its contract: its two sides are joined unless they have one label, and all is settled then. Assumes nothing.
use borrow.Author.Tests.{eqb-false, eqb-true}
use native.Mathlib.Omega.{arith}
use mathlib.Core.Path.{refl, sym, ap, ◌∙◌}
use Rattle.table.specs.Map.{label_of}
use Rattle.list_add.proofs.Turns.{went-same, went_then}
use Rattle.list_add.proofs.Adds.{equation-busy, equation-tags, equation-apart, equation-follows, equation-level, equation-added, side_left, side_right}
use Rattle.list_add.proofs.add_equation.Goals as goal

pub put_queued-requires : goal.put_queued-requires
put_queued-requires c = let a = c.requires.0 in (a.rested.standing.long, omega (arith, a.top, a.rested.short), omega arith)

pub left-x-requires : goal.left-x-requires
left-x-requires c = let a = c.requires.0 in ((equation-busy a.rested (omega (arith, a.top)) c.requires.1 (a.outs _ (omega arith) (omega arith)) c.put_queued.ensures (λ e. omega arith) refl c.requires.2).standing.long, rw c.requires.3 (equation-tags a.rested (omega (arith, a.top)) c.requires.1 (a.outs _ (omega arith) (omega arith)) c.put_queued.ensures (λ e. omega arith) refl c.requires.2).0)

pub right-y-requires : goal.right-y-requires
right-y-requires c = let a = c.requires.0 in ((equation-busy a.rested (omega (arith, a.top)) c.requires.1 (a.outs _ (omega arith) (omega arith)) c.put_queued.ensures (λ e. omega arith) refl c.requires.2).standing.long, rw c.requires.3 (equation-tags a.rested (omega (arith, a.top)) c.requires.1 (a.outs _ (omega arith) (omega arith)) c.put_queued.ensures (λ e. omega arith) refl c.requires.2).0)

pub label-a-requires : goal.label-a-requires
label-a-requires c = let a = c.requires.0 in ((equation-busy a.rested (omega (arith, a.top)) c.requires.1 (a.outs _ (omega arith) (omega arith)) c.put_queued.ensures (λ e. omega arith) refl c.requires.2).standing.long, rw (side_left a.rested (omega (arith, a.top)) c.requires.1 (a.outs _ (omega arith) (omega arith)) c.put_queued.ensures (λ e. omega arith) c.requires.3 c.left-x.ensures) (equation-tags a.rested (omega (arith, a.top)) c.requires.1 (a.outs _ (omega arith) (omega arith)) c.put_queued.ensures (λ e. omega arith) refl c.requires.2).1)

pub label-c-requires : goal.label-c-requires
label-c-requires c = let a = c.requires.0 in ((equation-busy a.rested (omega (arith, a.top)) c.requires.1 (a.outs _ (omega arith) (omega arith)) c.put_queued.ensures (λ e. omega arith) refl c.requires.2).standing.long, rw (side_right a.rested (omega (arith, a.top)) c.requires.1 (a.outs _ (omega arith) (omega arith)) c.put_queued.ensures (λ e. omega arith) c.requires.3 c.right-y.ensures) (equation-tags a.rested (omega (arith, a.top)) c.requires.1 (a.outs _ (omega arith) (omega arith)) c.put_queued.ensures (λ e. omega arith) refl c.requires.2).2)

pub returns-then-eq : goal.returns-then-eq
returns-then-eq c =
    let a = c.requires.0 in
    let x = side_left a.rested (omega (arith, a.top)) c.requires.1 (a.outs _ (omega arith) (omega arith)) c.put_queued.ensures (λ e. omega arith) c.requires.3 c.left-x.ensures in
    let y = side_right a.rested (omega (arith, a.top)) c.requires.1 (a.outs _ (omega arith) (omega arith)) c.put_queued.ensures (λ e. omega arith) c.requires.3 c.right-y.ensures in
    equation-added a.rested (omega (arith, a.top)) c.requires.1 (a.outs _ (omega arith) (omega arith)) c.put_queued.ensures (λ e. omega arith) (went-same _) (equation-busy a.rested (omega (arith, a.top)) c.requires.1 (a.outs _ (omega arith) (omega arith)) c.put_queued.ensures (λ e. omega arith) refl c.requires.2) (ap (label_of _) (sym x) ∙ sym c.label-a.ensures ∙ eqb-true _ _ (sym c.eq.ensures ∙ c.if-eq.true) ∙ c.label-c.ensures ∙ ap (label_of _) y)

pub unite-q-requires : goal.unite-q-requires
unite-q-requires c =
    let a = c.requires.0 in
    let x = c.label-a.ensures ∙ ap (label_of _) (side_left a.rested (omega (arith, a.top)) c.requires.1 (a.outs _ (omega arith) (omega arith)) c.put_queued.ensures (λ e. omega arith) c.requires.3 c.left-x.ensures) in
    let y = c.label-c.ensures ∙ ap (label_of _) (side_right a.rested (omega (arith, a.top)) c.requires.1 (a.outs _ (omega arith) (omega arith)) c.put_queued.ensures (λ e. omega arith) c.requires.3 c.right-y.ensures) in
    (equation-busy a.rested (omega (arith, a.top)) c.requires.1 (a.outs _ (omega arith) (omega arith)) c.put_queued.ensures (λ e. omega arith) refl c.requires.2, equation-apart a.rested (omega (arith, a.top)) c.requires.1 (a.outs _ (omega arith) (omega arith)) c.put_queued.ensures (λ e. omega arith) refl c.requires.2 x y (eqb-false _ _ (sym c.eq.ensures ∙ c.if-eq.false)), equation-follows a.rested (omega (arith, a.top)) c.requires.1 (a.outs _ (omega arith) (omega arith)) c.put_queued.ensures (λ e. omega arith) refl c.requires.2 x y)

pub settle-requires : goal.settle-requires
settle-requires c = c.unite-q.ensures.0.0

pub returns : goal.returns
returns c =
    let a = c.requires.0 in
    let x = c.label-a.ensures ∙ ap (label_of _) (side_left a.rested (omega (arith, a.top)) c.requires.1 (a.outs _ (omega arith) (omega arith)) c.put_queued.ensures (λ e. omega arith) c.requires.3 c.left-x.ensures) in
    let y = c.label-c.ensures ∙ ap (label_of _) (side_right a.rested (omega (arith, a.top)) c.requires.1 (a.outs _ (omega arith) (omega arith)) c.put_queued.ensures (λ e. omega arith) c.requires.3 c.right-y.ensures) in
    let u = c.unite-q.ensures in
    let s = c.settle.ensures in
    equation-added a.rested (omega (arith, a.top)) c.requires.1 (a.outs _ (omega arith) (omega arith)) c.put_queued.ensures (λ e. omega arith) (went_then u.0.1 s.1) s.0 (equation-level a.rested (omega (arith, a.top)) c.requires.1 (a.outs _ (omega arith) (omega arith)) c.put_queued.ensures (λ e. omega arith) refl c.requires.2 x y u.0.1 u.1 s.1)
