-- `answer_all::answer_all` meets its contract: from item to item the front of the room goes on making a sound report of whatever is one of the
-- items left, until none is left. The place in the job comes nearer to its end.
-- Assumes nothing.
use Prim.Native.Nat.{◌-◌}
use lib.ListN.{length}
use Rattle.moment.specs.Posed.{head_of}
use Rattle.answer_all.specs.Asking.{Midway}
use Rattle.answer_all.proofs.answer_all.Given as goal

abbrev pub invariant-loop-c : goal.invariant-loop-c
invariant-loop-c g l = Midway g.P.Profile.rules l.job l.initial.work l.initial.room (head_of l.c) l.c.len l.c.joins l.p l.work l.room

abbrev pub decreases-loop-c : goal.decreases-loop-c
decreases-loop-c g l = length l.job - l.p.at
