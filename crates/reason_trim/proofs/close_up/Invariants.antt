-- `trimming::close_up` meets its contract, place by place. Assumes nothing.
use Rattle.reason_trim.proofs.Closing.{Closing}
use Rattle.reason_trim.proofs.close_up.Given as goal

abbrev pub invariant-loop-i : goal.invariant-loop-i
invariant-loop-i l = Closing l.initial.work l.work l.i l.kept
