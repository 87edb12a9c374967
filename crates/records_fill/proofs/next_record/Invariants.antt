-- The invariant is the search itself (Seeking): what was found last stands at a place from which the same records stand ahead. What
-- falls is what is left of the job behind a question.
-- Assumes nothing.
use Rattle.records_fill.proofs.Seeking.{Seeking, left}
use Rattle.records_fill.proofs.next_record.Given as goal

abbrev pub invariant-loop-f : goal.invariant-loop-f
invariant-loop-f l = Seeking l.job l.at l.f

abbrev pub decreases-loop-f : goal.decreases-loop-f
decreases-loop-f l = left l.job l.at l.f
