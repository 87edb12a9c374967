-- `leading::label_all` meets its contract: the tags before the one at hand are labelled by the smallest of their classes. Assumes nothing.
use native.Mathlib.Omega.{arith}
use mathlib.Core.Path.{◌≡◌}
use lib.ListN.{length-set}
use Rattle.leading.proofs.Seating.{forest-kept, labelled-here, scan-start, scan-on}
use Rattle.leading.proofs.label_all.Goals as goal

pub loop-i-init : goal.loop-i-init
loop-i-init c = scan-start _ _

pub tag_at-x-requires : goal.tag_at-x-requires
tag_at-x-requires c = omega (arith, c.loop-i-test, c.requires.1)

pub next_label-l-requires : goal.next_label-l-requires
next_label-l-requires c =
    let g = c.loop-i.invariant in
    (forest-kept g.frame c.requires.0, c.requires.2, omega (arith, c.requires.1, c.tag_at-x.ensures), rw c.tag_at-x.ensures (labelled-here g.frame _ _ g.labelled))

pub put_label-requires : goal.put_label-requires
put_label-requires c =
    let g = c.loop-i.invariant in
    (omega (arith, g.frame.size, c.requires.0.long), omega (arith, c.requires.1, c.tag_at-x.ensures))

pub put_seat-requires : goal.put_seat-requires
put_seat-requires c =
    let g = c.loop-i.invariant in
    (rw c.put_label.ensures (rw length-set (omega (arith, g.frame.size, c.requires.0.long))), omega (arith, c.requires.1, c.tag_at-x.ensures))

pub loop-i-preserved : goal.loop-i-preserved
loop-i-preserved c =
    let l = c.loop-i in
    let x = c.tag_at-x.ensures in
    scan-on c.requires.0.long (omega (arith, c.requires.1)) l.invariant (rw x at c.next_label-l.ensures) (rw x at c.put_label.ensures) (rw x at c.put_seat.ensures)

pub returns : goal.returns
returns c = let q : c.loop-i.i ≡ c.args.size = omega arith in rw (← q) c.loop-i.invariant
