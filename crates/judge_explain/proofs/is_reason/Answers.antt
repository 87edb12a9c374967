-- `judge_explain::is_reason` meets its contract: a reason that was found again is one, and for any other list the tests decide.
-- Assumes nothing.
use Rattle.judge_explain.proofs.Right.{reason-sure, known_kept, reason-later}
use Rattle.judge_explain.proofs.is_reason.Goals as goal

pub returns-then-is_own : goal.returns-then-is_own
returns-then-is_own c = reason-sure c.is_own.ensures c.if-is_own.true

pub meets-requires : goal.meets-requires
meets-requires c = (known_kept c.is_own.ensures.kept c.requires.0, c.requires.1)

pub returns : goal.returns
returns c = reason-later c.is_own.ensures.kept c.meets.ensures
