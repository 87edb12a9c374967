-- `leading::seat_units` meets its contract: each unit takes the seat of its label from those behind it. Assumes nothing.
use Prim.Native.Nat.{ℕ, ◌-◌, ◌<◌}
use native.Mathlib.Omega.{arith}
use mathlib.Core.Path.{◌≡◌, ap}
use Rattle.leading.proofs.Seating.{seat-start, seat-labels, seat-on}
use Rattle.leading.proofs.seat_units.Goals as goal

pub loop-i-init : goal.loop-i-init
loop-i-init c = (omega (arith, c.requires.units), seat-start c.requires)

pub tag_at-x-requires : goal.tag_at-x-requires
tag_at-x-requires c = omega (arith, c.loop-i.auto.i, c.requires.few)

pub label-l-requires : goal.label-l-requires
label-l-requires c =
    let l = c.loop-i in
    (omega (arith, l.invariant.1.frame.size, c.requires.long), omega (arith, l.auto.i, c.requires.few, c.loop-i-test, c.tag_at-x.ensures))

pub put_seat-requires : goal.put_seat-requires
put_seat-requires c =
    let l = c.loop-i in
    let g = l.invariant.1 in
    let t = c.loop-i-test in
    let low : l.i - 1 < c.args.size = omega (arith, l.auto.i, t) in
    (omega (arith, g.frame.size, c.requires.long), omega (arith, rw c.tag_at-x.ensures at c.label-l.ensures, ap (λ (f : ℕ → ℕ). f (l.i - 1)) (seat-labels g.frame), c.requires.low (l.i - 1) low, c.requires.few))

pub loop-i-preserved : goal.loop-i-preserved
loop-i-preserved c =
    let l = c.loop-i in
    let t = c.loop-i-test in
    let x = c.tag_at-x.ensures in
    (omega (arith, t), seat-on c.requires l.invariant.1 (omega (arith, t)) l.auto.i (omega (arith, t)) (rw x at c.label-l.ensures) (rw x at c.put_seat.ensures))

pub returns : goal.returns
returns c =
    let q : c.loop-i.i ≡ c.args.unit = omega (arith, c.loop-i.invariant.0, c.loop-i-test) in
    record { frame = c.loop-i.invariant.1.frame; seats = rw (← q) c.loop-i.invariant.1.seats }
