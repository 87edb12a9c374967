-- `pop` meets its contract. Assumes nothing.
use Prim.Native.Nat.{suc, ◌-◌}
use native.Mathlib.Omega.{arith}
use mathlib.Core.Path.{◌≡◌}
use Rattle.list_add.proofs.Turns.{pop-low, busy-pop, went-pop, rank-pop}
use Rattle.list_add.proofs.pop.Goals as goal

pub overflow_sub-j : goal.overflow_sub-j
overflow_sub-j c = omega (arith, c.requires.1)

pub queued-v-requires : goal.queued-v-requires
queued-v-requires c =
    let p = c.requires in
    let e : c.args.s.first ≡ suc (c.args.s.first - 1) = omega (arith, p.1) in
    (p.0.standing.long, (pop-low p.0 e).0)

pub put_queued-requires : goal.put_queued-requires
put_queued-requires c =
    let p = c.requires in
    let e : c.args.s.first ≡ suc (c.args.s.first - 1) = omega (arith, p.1) in
    (p.0.standing.long, (pop-low p.0 e).0, omega arith)

pub overflow_sub-result : goal.overflow_sub-result
overflow_sub-result c =
    let p = c.requires in
    let e : c.args.s.first ≡ suc (c.args.s.first - 1) = omega (arith, p.1) in
    omega (arith, (pop-low p.0 e).1, c.queued-v.ensures)

pub returns : goal.returns
returns c =
    let p = c.requires in
    let e : c.args.s.first ≡ suc (c.args.s.first - 1) = omega (arith, p.1) in
    (rw c.queued-v.ensures (busy-pop p.0 e p.2 c.put_queued.ensures), went-pop p.0 e p.2 c.put_queued.ensures, rank-pop p.0 e c.put_queued.ensures)
