-- `file` meets its contract: j waits, so it is on no chain, and is put at the head of its own or behind the place above it.
-- Assumes nothing.
use native.Mathlib.Omega.{arith}
use lib.ListN.{length-set}
use Rattle.all_index.proofs.Waiting.{queue-head}
use Rattle.all_index.proofs.Placing.{above-room, behind-room, put_in}
use Rattle.all_index.proofs.file.Goals as goal

pub wait_after-next-requires : goal.wait_after-next-requires
wait_after-next-requires c =
    let g = c.requires.0 in
    (g.loaded.long, omega (arith, (queue-head c.args.j c.requires.1).0, g.reach, g.loaded.most))

pub behind-p-requires : goal.behind-p-requires
behind-p-requires c =
    let g = c.requires.0 in
    (g.loaded.long, omega (arith, c.requires.2), omega (arith, above-room g c.requires.4, g.reach, g.loaded.most))

pub put_chain-requires : goal.put_chain-requires
put_chain-requires c =
    let g = c.requires.0 in
    let l = (queue-head c.args.j c.requires.1).0 in
    (g.loaded.long, omega (arith, g.reach, g.loaded.most), omega (arith, behind-room g l c.requires.4 c.behind-p.ensures, g.reach, g.loaded.most))

pub overflow_add-j : goal.overflow_add-j
overflow_add-j c =
    let g = c.requires.0 in
    record { fits = omega (arith, (queue-head c.args.j c.requires.1).0, g.reach, g.loaded.most) }

pub lead-requires : goal.lead-requires
lead-requires c =
    let g = c.requires.0 in
    (rw (c.put_chain.ensures, length-set) g.loaded.long, omega (arith, c.requires.2), omega (arith, above-room g c.requires.4, g.reach, g.loaded.most), omega (arith, (queue-head c.args.j c.requires.1).0, g.reach, g.loaded.most))

pub returns : goal.returns
returns c =
    let h = c.requires in
    put_in h.0 h.1 h.2 h.3 h.4 c.wait_after-next.ensures c.behind-p.ensures c.put_chain.ensures c.lead.ensures
