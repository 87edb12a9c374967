-- `job_read::read_job` meets its contract. The loop's invariant: what is left to read, with what has been seen, comes to the outcome of the
-- whole. The measure is what is left of the job, since each field that is passed has some bytes.
-- Assumes nothing.
use Rattle.job_read.proofs.Turning.{Seeing}
use Prim.Native.Nat.{◌-◌}
use lib.ListN.{length}
use Rattle.job_read.proofs.read_job.Given as goal

abbrev pub invariant-loop-next : goal.invariant-loop-next
invariant-loop-next l = Seeing l.job l.seen

abbrev pub decreases-loop-next : goal.decreases-loop-next
decreases-loop-next l = length l.job - l.seen.at
