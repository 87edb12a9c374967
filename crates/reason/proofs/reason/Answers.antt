-- `reason::reason` meets its contract: each step leaves what the next one asks, and the last leaves a reason.
-- Assumes nothing.
use native.Mathlib.Omega.{arith}
use native.Mathlib.Numerals.{add-one}
use Rattle.reason.proofs.Whole.{asks-trace, asks-list, followed, asks-made, asks-rising, reasoned}
use Rattle.reason.proofs.reason.Goals as goal

pub unmark_all-requires : goal.unmark_all-requires
unmark_all-requires c = (c.requires.past.loaded.long, omega (arith, c.requires.past.low, c.requires.past.loaded.few))

pub trace-requires : goal.trace-requires
trace-requires c = rw add-one (asks-trace c.requires c.unmark_all.ensures)

pub list_marked-n-requires : goal.list_marked-n-requires
list_marked-n-requires c = rw add-one (asks-list c.requires c.unmark_all.ensures (rw add-one at c.trace.ensures))

pub trim-kept-requires : goal.trim-kept-requires
trim-kept-requires c = (followed c.requires c.unmark_all.ensures (rw add-one at c.trace.ensures) (rw add-one at c.list_marked-n.ensures))

pub made-last-requires : goal.made-last-requires
made-last-requires c = asks-made c.requires c.unmark_all.ensures (rw add-one at c.trace.ensures) (rw add-one at c.list_marked-n.ensures) c.trim-kept.ensures

pub put_rising-requires : goal.put_rising-requires
put_rising-requires c = asks-rising c.requires c.unmark_all.ensures (rw add-one at c.trace.ensures) (rw add-one at c.list_marked-n.ensures) c.trim-kept.ensures c.made-last.ensures

pub returns : goal.returns
returns c = reasoned c.requires c.unmark_all.ensures (rw add-one at c.trace.ensures) (rw add-one at c.list_marked-n.ensures) c.trim-kept.ensures c.put_rising.ensures
