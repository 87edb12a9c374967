-- A term calls the reader of its arguments, and that one a term: twice the unread rest falls. Assumes nothing.
use Prim.Native.Nat.{◌+◌, ◌-◌, ◌*◌}
use lib.ListN.{length}
use Rattle.script_term_read.proofs.Turning.{Loop}
use Rattle.script_term_read.proofs.+arguments_term.Given as goal

abbrev pub decreases-arguments : goal.decreases-arguments
decreases-arguments l = 2 * (length l.script.now - l.from) + 2

abbrev pub decreases-term : goal.decreases-term
decreases-term l = 2 * (length l.script.now - l.x.to) + 1

abbrev pub invariant-arguments-loop-have : goal.invariant-arguments-loop-have
invariant-arguments-loop-have l = Loop l.script l.fn.work l.fn.counts l.depth l.head l.wants l.from l.work l.seen l.have l.number l.at
