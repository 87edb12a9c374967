-- `answer_passes` meets its contract. Where the count is not above the limit the labels are seated and the leaders laid; else nothing more is done.
-- Assumes nothing.
use native.Mathlib.Omega.{arith}
use Rattle.slow_answer.proofs.Telling.{seating-of, told-spent, told-done}
use Rattle.slow_answer.proofs.answer_passes.Goals as goal

pub most_passes-most-requires : goal.most_passes-most-requires
most_passes-most-requires c = c.requires.0.few

pub advance-done-requires : goal.advance-done-requires
advance-done-requires c = c.requires.0

pub returns-then-done-limit : goal.returns-then-done-limit
returns-then-done-limit c = rw c.of.ensures (told-spent c.requires.0 c.requires.1 c.advance-done.ensures c.args.limit c.args.watch c.most_passes-most.ensures (omega arith))

pub lay_leaders-requires : goal.lay_leaders-requires
lay_leaders-requires c = (seating-of c.requires.0 c.requires.1 c.advance-done.ensures, c.requires.2)

pub returns : goal.returns
returns c = told-done c.requires.0 c.requires.1 c.advance-done.ensures c.lay_leaders.ensures.seated c.args.limit c.args.watch c.most_passes-most.ensures (omega arith) c.lay_leaders.ensures.front
