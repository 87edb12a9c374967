-- `absorb` meets its contract. Assumes nothing.
use native.Mathlib.Omega.{arith}
use native.Mathlib.Numerals.{add-one}
use Rattle.list_rings.proofs.Linking.{join-room}
use Rattle.list_add.proofs.Turns.{busy-falling, busy-ringed, roused-standing, roused-apart, busy-join, went-join, rank-join, one_label}
use Rattle.list_add.proofs.absorb.Goals as goal

pub wake_class-last-requires : goal.wake_class-last-requires
wake_class-last-requires c = let p = c.requires in (busy-falling p.0, busy-ringed p.0 p.1, p.0.last-low)

pub join-requires : goal.join-requires
join-requires c = let p = c.requires in (roused-standing p.0 c.wake_class-last.ensures, roused-apart c.wake_class-last.ensures p.1)

pub overflow_add-result : goal.overflow_add-result
overflow_add-result c = let p = c.requires in omega (arith, join-room p.0.standing p.1)

pub returns : goal.returns
returns c =
    let p = c.requires in
    rw add-one ((busy-join p.0 p.1 p.2 c.wake_class-last.ensures c.join.ensures, went-join p.0 p.1 p.2 c.wake_class-last.ensures c.join.ensures, rank-join _ _ (join-room p.0.standing p.1)), one_label p.0 p.1 p.2 c.wake_class-last.ensures c.join.ensures)
