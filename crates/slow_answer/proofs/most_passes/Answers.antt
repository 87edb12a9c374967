-- `most_passes` meets its contract: it compares.
-- Assumes nothing.
use native.Mathlib.Omega.{arith}
use Rattle.slow_answer.proofs.most_passes.Goals as goal

pub returns-then-watch : goal.returns-then-watch
returns-then-watch c = rw c.if-watch.true

pub returns-then-limit-size : goal.returns-then-limit-size
returns-then-limit-size c = rw c.if-watch.false (omega arith)

pub returns : goal.returns
returns c = rw c.if-watch.false (omega arith)
