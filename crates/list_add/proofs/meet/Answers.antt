-- `meet` meets its contract. Assumes nothing.
use borrow.Author.Tests.{eqb-false, eqb-true}
use Prim.Native.Nat.{◌-◌}
use native.Mathlib.Omega.{arith}
use mathlib.Core.Path.{◌≡◌, sym, ◌∙◌}
use Rattle.list_add.proofs.Turns.{pop-low}
use Rattle.list_add.proofs.Looks.{tags-of, waits_in, waits-app, twins-follow, labels_apart, match-result, twinned-fits}
use Rattle.list_add.proofs.meet.Goals as goal

pub placed-r-requires : goal.placed-r-requires
placed-r-requires c = let p = c.requires in (p.0.standing.long, (pop-low p.0 p.1).0)

pub overflow_sub-p : goal.overflow_sub-p
overflow_sub-p c = omega (arith, c.requires.3)

pub placed-q-requires : goal.placed-q-requires
placed-q-requires c = let p = c.requires in (p.0.standing.long, omega (arith, p.2.low, p.3))

pub result-x-requires : goal.result-x-requires
result-x-requires c = let p = c.requires in (p.0.standing.long, rw c.placed-r.ensures (tags-of p.0 _ (waits_in p.0 p.1)).0)

pub result-y-requires : goal.result-y-requires
result-y-requires c =
    let p = c.requires in
    let g = (p.2.found (λ e. omega (arith, p.3))).0 in
    (p.0.standing.long, rw c.placed-q.ensures (tags-of p.0 _ g.0).0)

pub label-u-requires : goal.label-u-requires
label-u-requires c =
    let p = c.requires in
    let g = waits-app p.0 p.1 in
    (p.0.standing.long, rw (c.result-x.ensures, c.placed-r.ensures) ((tags-of p.0 _ g.0).3 g.1))

pub label-v-requires : goal.label-v-requires
label-v-requires c =
    let p = c.requires in
    let g = (p.2.found (λ e. omega (arith, p.3))).0 in
    (p.0.standing.long, rw (c.result-y.ensures, c.placed-q.ensures) ((tags-of p.0 _ g.0).3 g.1))

pub pop-requires : goal.pop-requires
pop-requires c =
    let p = c.requires in
    let u = match-result c.args.work.now c.args.j c.placed-r.ensures c.result-x.ensures c.label-u.ensures in
    let v = match-result c.args.work.now (c.args.p - 1) c.placed-q.ensures c.result-y.ensures c.label-v.ensures in
    let e : c.args.s.first - 1 ≡ c.args.j = omega (arith, p.1) in
    (p.0, omega (arith, p.1), rw e (twinned-fits p.2 p.3 (sym u ∙ eqb-true _ _ (sym c.eq.ensures ∙ c.if-eq.true) ∙ v)))

pub returns-then-eq : goal.returns-then-eq
returns-then-eq c = c.pop.ensures

pub unite-requires : goal.unite-requires
unite-requires c =
    let p = c.requires in
    let g = waits-app p.0 p.1 in
    let f = p.2.found (λ e. omega (arith, p.3)) in
    let h = f.0 in
    let u = match-result c.args.work.now c.args.j c.placed-r.ensures c.result-x.ensures c.label-u.ensures in
    let v = match-result c.args.work.now (c.args.p - 1) c.placed-q.ensures c.result-y.ensures c.label-v.ensures in
    (p.0, labels_apart p.0 _ _ ((tags-of p.0 _ g.0).3 g.1) ((tags-of p.0 _ h.0).3 h.1) u v (eqb-false _ _ (sym c.eq.ensures ∙ c.if-eq.false)), rw (u, v) (twins-follow p.0 _ _ g h (sym f.1.left) (sym f.1.right)))

pub returns : goal.returns
returns c = c.unite.ensures.0
