-- `judge::judge_by` meets its contract. The loop's invariant: the fields before the place are right, so that what is left decides the
-- whole. The measure is what is left of the job. Assumes nothing.
use Prim.Native.Nat.{◌-◌}
use lib.ListN.{length}
use Rattle.judge.proofs.Going.{Judging}
use Rattle.judge.proofs.judge_by.Given as goal

abbrev pub invariant-loop-t : goal.invariant-loop-t
invariant-loop-t g l = Judging g.P.Profile.rules l.job l.report l.initial.work l.work l.c l.idle l.s

abbrev pub decreases-loop-t : goal.decreases-loop-t
decreases-loop-t g l = length l.job - l.s.at
