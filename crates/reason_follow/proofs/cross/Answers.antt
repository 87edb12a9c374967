-- `reason_follow::cross` meets its contract: the way is shown to the near end of the last join that waits. Assumes nothing.
use mathlib.Core.Path.{◌≡◌}
use Prim.Native.Nat.{suc, ◌-◌}
use native.Mathlib.Omega.{arith}
use Rattle.reason_follow.proofs.Ways.{way_long, cross-some, cross-listed, cross-asks, cross-notes, cross-known, cross-kept, cross-way, cross-falls}
use Rattle.reason_follow.proofs.cross.Goals as goal

pub overflow_sub-n : goal.overflow_sub-n
overflow_sub-n c = omega (arith, cross-some c.requires.0.way c.requires.1 c.requires.2)

pub waiting-r-requires : goal.waiting-r-requires
waiting-r-requires c = cross-listed c.requires.0.way (omega (arith, cross-some c.requires.0.way c.requires.1 c.requires.2))

pub known-y-requires : goal.known-y-requires
known-y-requires c = cross-asks c.requires.0.way (omega (arith, cross-some c.requires.0.way c.requires.1 c.requires.2))

pub take-requires : goal.take-requires
take-requires c = (way_long c.requires.0.way, c.waiting-r.ensures.age)

pub note-requires : goal.note-requires
note-requires c =
    let e : c.args.p.waiting ≡ suc (c.args.p.waiting - 1) = omega (arith, cross-some c.requires.0.way c.requires.1 c.requires.2) in
    let k = cross-notes c.requires.0.way e c.waiting-r.ensures c.take.ensures in
    (k.0, k.1, omega (arith, k.2, cross-known c.requires.0.way e c.known-y.ensures))

pub returns : goal.returns
returns c =
    let e : c.args.p.waiting ≡ suc (c.args.p.waiting - 1) = omega (arith, cross-some c.requires.0.way c.requires.1 c.requires.2) in
    record {
      kept = cross-kept c.requires.0.way e c.requires.1 c.waiting-r.ensures c.known-y.ensures c.take.ensures c.note.ensures;
      way = λ w₀ limit s o. cross-way o e c.requires.1 c.waiting-r.ensures c.known-y.ensures c.take.ensures c.note.ensures;
      falls = cross-falls c.requires.0.way e c.requires.1 c.waiting-r.ensures c.known-y.ensures c.take.ensures c.note.ensures;
    }
