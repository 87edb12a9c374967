-- `judge_broken::intact` meets its contract: the field is one, and its bytes are compared.
-- Assumes nothing.
use Rattle.judge_explain.proofs.Right.{untrue}
use Rattle.judge_broken.proofs.Right.{intact-there, intact-not}
use Rattle.judge_broken.proofs.intact.Goals as goal

pub returns-then-is_bare : goal.returns-then-is_bare
returns-then-is_bare c = intact-there (c.is_bare.ensures.0 c.if-is_bare.true)

pub returns-else-is_bare : goal.returns-else-is_bare
returns-else-is_bare c = intact-not (untrue c.is_bare.ensures c.if-is_bare.false)
