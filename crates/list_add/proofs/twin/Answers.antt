-- `twin` meets its contract. Assumes nothing.
use mathlib.Core.Bool.{true, false}
use Rattle.list_add.proofs.Turns.{pop-low}
use Rattle.list_add.proofs.Seeks.{match-left, match-right}
use Rattle.list_add.proofs.Looks.{tags-of, waits_in, busy-legible, label-low, label-ringed, twinned}
use Rattle.list_add.proofs.twin.Goals as goal

pub placed-r-requires : goal.placed-r-requires
placed-r-requires c = let p = c.requires in (p.0.standing.long, (pop-low p.0 p.1).0)

pub left-x-requires : goal.left-x-requires
left-x-requires c = let p = c.requires in (p.0.standing.long, rw c.placed-r.ensures (tags-of p.0 _ (waits_in p.0 p.1)).0)

pub right-y-requires : goal.right-y-requires
right-y-requires c = let p = c.requires in (p.0.standing.long, rw c.placed-r.ensures (tags-of p.0 _ (waits_in p.0 p.1)).0)

pub label-a-requires : goal.label-a-requires
label-a-requires c = let p = c.requires in (p.0.standing.long, rw (c.left-x.ensures, c.placed-r.ensures) (tags-of p.0 _ (waits_in p.0 p.1)).1)

pub label-c-requires : goal.label-c-requires
label-c-requires c = let p = c.requires in (p.0.standing.long, rw (c.right-y.ensures, c.placed-r.ensures) (tags-of p.0 _ (waits_in p.0 p.1)).2)

pub lighter-requires : goal.lighter-requires
lighter-requires c =
    let p = c.requires in
    let t = tags-of p.0 _ (waits_in p.0 p.1) in
    (p.0.standing.long, rw (c.label-a.ensures, c.left-x.ensures, c.placed-r.ensures) (label-low p.0 _ t.1), rw (c.label-c.ensures, c.right-y.ensures, c.placed-r.ensures) (label-low p.0 _ t.2))

pub seek_class-requires : goal.seek_class-requires
seek_class-requires c =
    let p = c.requires in
    (busy-legible p.0, rw (c.label-a.ensures, c.left-x.ensures, c.placed-r.ensures) (label-ringed p.0 _ (tags-of p.0 _ (waits_in p.0 p.1)).1))

pub seek_class-requires-else-lighter : goal.seek_class-requires-else-lighter
seek_class-requires-else-lighter c =
    let p = c.requires in
    (busy-legible p.0, rw (c.label-c.ensures, c.right-y.ensures, c.placed-r.ensures) (label-ringed p.0 _ (tags-of p.0 _ (waits_in p.0 p.1)).2))

pub returns-then-lighter : goal.returns-then-lighter
returns-then-lighter c =
    let l = match-left c.args.work.now c.args.j c.placed-r.ensures c.left-x.ensures c.label-a.ensures in
    let r = match-right c.args.work.now c.args.j c.placed-r.ensures c.right-y.ensures c.label-c.ensures in
    twinned c.requires.0 false c.args.j l r l c.seek_class.ensures

pub returns-else-lighter : goal.returns-else-lighter
returns-else-lighter c =
    let l = match-left c.args.work.now c.args.j c.placed-r.ensures c.left-x.ensures c.label-a.ensures in
    let r = match-right c.args.work.now c.args.j c.placed-r.ensures c.right-y.ensures c.label-c.ensures in
    twinned c.requires.0 true c.args.j l r r c.seek_class-else-lighter.ensures
