-- `take_out` meets its contract: j stands where it belongs and is led past, or it is on no chain; then it waits.
-- Assumes nothing.
use native.Mathlib.Omega.{arith}
use native.Mathlib.Numerals.{add-one}
use mathlib.Core.Path.{sym, ◌∙◌}
use Rattle.all_index.proofs.Placing.{queue-low, above-room, taken, left}
use Rattle.all_index.proofs.take_out.Goals as goal

pub link-p-requires : goal.link-p-requires
link-p-requires c = (c.requires.0.loaded.long, omega (arith, c.requires.2, c.requires.0.reach, c.requires.0.loaded.most))

pub behind-requires : goal.behind-requires
behind-requires c = (c.requires.0.loaded.long, omega (arith, c.requires.5), omega (arith, above-room c.requires.0 c.requires.6, c.requires.0.reach, c.requires.0.loaded.most))

pub overflow_add-j : goal.overflow_add-j
overflow_add-j c = record { fits = omega (arith, c.requires.2, c.requires.0.reach, c.requires.0.loaded.most) }

pub lead-requires : goal.lead-requires
lead-requires c =
    let g = c.requires.0 in
    (g.loaded.long, omega (arith, c.requires.5), omega (arith, above-room g c.requires.6, g.reach, g.loaded.most), omega (arith, c.link-p.ensures, g.filed.falls c.args.j, c.requires.2, g.reach, g.loaded.most))

pub put_wait-requires : goal.put_wait-requires
put_wait-requires c =
    let g = c.requires.0 in
    (rw c.lead.ensures.frame.size g.loaded.long, omega (arith, c.requires.2, g.reach, g.loaded.most), omega (arith, queue-low c.args.first c.requires.1, g.reach, g.loaded.most))

pub returns-then-behind-j : goal.returns-then-behind-j
returns-then-behind-j c =
    let h = c.requires in
    taken h.0 h.1 h.2 h.3 h.4 h.5 h.6 c.link-p.ensures (rw add-one at (sym c.behind.ensures ∙ c.if-behind-j.true)) c.lead.ensures c.put_wait.ensures

pub put_wait-requires-2 : goal.put_wait-requires-2
put_wait-requires-2 c =
    let g = c.requires.0 in
    (g.loaded.long, omega (arith, c.requires.2, g.reach, g.loaded.most), omega (arith, queue-low c.args.first c.requires.1, g.reach, g.loaded.most))

pub returns : goal.returns
returns c =
    let h = c.requires in
    left h.0 h.1 h.2 h.3 h.4 h.5 h.6 (λ e. c.if-behind-j.false (c.behind.ensures ∙ rw add-one e)) c.put_wait-2.ensures
