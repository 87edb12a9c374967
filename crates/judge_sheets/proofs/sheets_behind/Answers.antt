-- `judge_sheets::sheets_behind` meets its contract, by what was found: a reason, whose sheets are looked for in edition 2, or none.
-- Assumes nothing.
use mathlib.Core.Path.{refl, ◌∙◌}
use Rattle.std.proofs.lemmas.Result.{err_from_is_err_and}
use Rattle.judge_sheets.proofs.Behind.{turned-filed, turned-bare, turned_none}
use Rattle.judge_sheets.proofs.sheets_behind.Goals as goal

pub filed-requires : goal.filed-requires
filed-requires c = (c.requires.1 _ c.in_ok-end.was, c.requires.0 ∙ c.if-sheeted.true)

pub returns-then-sheeted : goal.returns-then-sheeted
returns-then-sheeted c = turned-filed c.in_ok-end.was c.filed.ensures

pub returns-else-sheeted : goal.returns-else-sheeted
returns-else-sheeted c = turned-bare (c.requires.0 ∙ c.if-sheeted.false) c.in_ok-end.was

pub returns-in_err-end : goal.returns-in_err-end
returns-in_err-end c =
    let p = err_from_is_err_and c.from_residual.result c.from_residual.ensures.1 in
    turned_none c.in_err-end.was (rw (p.1, p.2) refl)
