-- `answer_sheet` meets its contract: what the run promises of its answer, and tell of the text, are together true of the job.
-- Assumes nothing.
use Rattle.harness_saying.proofs.Saying.{ran-true}
use Rattle.harness_saying.proofs.answer_sheet.Goals as goal

pub returns-in-Ok : goal.returns-in-Ok
returns-in-Ok c = ran-true c.in-Ok.ensures c.tell_answer.ensures

pub returns-in-Err : goal.returns-in-Err
returns-in-Err c = ran-true c.in-Err.ensures (rw c.from.ensures at c.tell_answer-in-Err.ensures)
