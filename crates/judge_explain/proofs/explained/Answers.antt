-- `judge_explain::explained` meets its contract: by the first k the equality follows from the records before the question, or it does not.
-- Assumes nothing.
use Rattle.judge_explain.proofs.Right.{untrue, apart-passed, apart-missing, behind-there, edition-there, because-explained}
use Rattle.judge_explain.proofs.explained.Goals as goal

pub came-first-requires : goal.came-first-requires
came-first-requires c = c.requires.0.posed

pub because-found-requires : goal.because-found-requires
because-found-requires c = (record { posed = c.requires.0.posed; early = c.if-first-q.true; first = c.came-first.ensures.0.then c.if-first-q.true }, c.requires.1)

pub sheets_behind-requires : goal.sheets_behind-requires
sheets_behind-requires c = (edition-there c.requires.0, behind-there c.requires.0 c.requires.1 c.because-found.ensures)

pub returns-then-first-q : goal.returns-then-first-q
returns-then-first-q c = because-explained c.requires.0 (record { posed = c.requires.0.posed; early = c.if-first-q.true; first = c.came-first.ensures.0.then c.if-first-q.true }) c.because-found.ensures c.sheets_behind.ensures

pub returns-then-is_apart : goal.returns-then-is_apart
returns-then-is_apart c = apart-passed c.requires.0 (c.came-first.ensures.0.never c.if-first-q.false) c.args.report.now c.args.at (c.is_apart.ensures.0 c.if-is_apart.true)

pub returns-else-is_apart : goal.returns-else-is_apart
returns-else-is_apart c = apart-missing c.requires.0 (c.came-first.ensures.0.never c.if-first-q.false) c.args.report.now c.args.at (untrue c.is_apart.ensures c.if-is_apart.false)
