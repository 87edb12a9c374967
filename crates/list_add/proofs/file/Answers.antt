-- `file` meets its contract. Assumes nothing.
use Prim.Native.Nat.{◌<◌}
use native.Mathlib.Omega.{arith}
use mathlib.Core.Path.{sym, ap, ◌∙◌}
use mathlib.Core.Logic.{◌≢◌}
use mathlib.Core.Bool.{true, false, true≢false}
use borrow.Author.Tests.{eqb-true, eq-eqb}
use Rattle.table.specs.Map.{left_of, right_of, result_of, place_of}
use Rattle.table.proofs.Frame.{within-refl}
use Rattle.list_add.proofs.Files.{use-stored, listed-tags, filing-skip, filing-more, filing-kept}
use Rattle.table.specs.Places.{EQUATION, front_size}
use Rattle.list_add.proofs.file.Goals as goal

pub placed-r-requires : goal.placed-r-requires
placed-r-requires c = (c.requires.0.standing.long, omega (arith, c.requires.1, c.requires.0.listing.short))

pub is_equation-requires : goal.is_equation-requires
is_equation-requires c = (c.requires.0.standing.long, rw c.placed-r.ensures (listed-tags c.requires.0.listing _ c.requires.1).0)

pub returns-then-is_equation : goal.returns-then-is_equation
returns-then-is_equation c = (filing-skip (ap (result_of _) (sym c.placed-r.ensures) ∙ eqb-true _ _ (sym c.is_equation.ensures ∙ c.if-is_equation.true)) c.requires.0, within-refl _)

pub left-x-requires : goal.left-x-requires
left-x-requires c = (c.requires.0.standing.long, rw c.placed-r.ensures (listed-tags c.requires.0.listing _ c.requires.1).0)

pub right-y-requires : goal.right-y-requires
right-y-requires c = (c.requires.0.standing.long, rw c.placed-r.ensures (listed-tags c.requires.0.listing _ c.requires.1).0)

pub put_place-requires : goal.put_place-requires
put_place-requires c = (c.requires.0.standing.long, rw (c.left-x.ensures, c.placed-r.ensures) (listed-tags c.requires.0.listing _ c.requires.1).1, omega (arith, c.requires.1, c.requires.0.listing.short))

pub put_place-requires-2 : goal.put_place-requires-2
put_place-requires-2 c =
    let x = c.left-x.ensures ∙ ap (left_of _) c.placed-r.ensures in
    let l : c.args.i < front_size = omega (arith, c.requires.1, c.requires.0.listing.short) in
    let u = use-stored false c.args.work.now c.left-x.result.0 c.args.i c.requires.0.standing.long (rw x (listed-tags c.requires.0.listing _ c.requires.1).1) l c.put_place.ensures in
    (omega (arith, u.kept.size, c.requires.0.standing.long), rw (c.right-y.ensures, c.placed-r.ensures) (listed-tags c.requires.0.listing _ c.requires.1).2, l)

pub returns : goal.returns
returns c =
    let a : result_of c.args.work.now (place_of c.args.work.now c.args.i) ≢ EQUATION = λ e. true≢false (sym (eq-eqb _ _ (ap (result_of _) c.placed-r.ensures ∙ e)) ∙ sym c.is_equation.ensures ∙ c.if-is_equation.false) in
    let x = c.left-x.ensures ∙ ap (left_of _) c.placed-r.ensures in
    let y = c.right-y.ensures ∙ ap (right_of _) c.placed-r.ensures in
    let l : c.args.i < front_size = omega (arith, c.requires.1, c.requires.0.listing.short) in
    let u = use-stored false c.args.work.now c.left-x.result.0 c.args.i c.requires.0.standing.long (rw x (listed-tags c.requires.0.listing _ c.requires.1).1) l c.put_place.ensures in
    let v = use-stored true c.put_place.new.work c.right-y.result.0 c.args.i (omega (arith, u.kept.size, c.requires.0.standing.long)) (rw y (listed-tags c.requires.0.listing _ c.requires.1).2) l c.put_place-2.ensures in
    (filing-more c.requires.0 a x y u v, filing-kept c.requires.0 a x y u v)
