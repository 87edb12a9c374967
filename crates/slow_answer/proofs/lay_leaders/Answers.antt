-- `lay_leaders` meets its contract: the leaders are seated, then laid.
-- Assumes nothing.
use Rattle.slow_answer.proofs.Telling.{labelled-of}
use Rattle.slow_answer.proofs.lay_leaders.Goals as goal

pub seat_all-requires : goal.seat_all-requires
seat_all-requires c = c.requires.0

pub put_leaders-requires : goal.put_leaders-requires
put_leaders-requires c = (labelled-of c.requires.0 c.seat_all.ensures, c.requires.1)

pub returns : goal.returns
returns c = record { seated = c.seat_all.ensures; front = c.put_leaders.ensures }
