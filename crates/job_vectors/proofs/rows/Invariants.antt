use Rattle.std.proofs.Common.{length}
use Rattle.job_vectors.proofs.rows.Given as goal

abbrev pub decreases-loop-rest : goal.decreases-loop-rest
decreases-loop-rest l = length l.rest
