use native.Mathlib.Omega.{arith}
use Rattle.script_steps.proofs.Outcomes.{handed}
use Rattle.script_commands.proofs.Asking.{ask-room, sides-next}
use Rattle.script_commands.proofs.Making.{equal-sides, equal-close, equal-good}
use Rattle.script_commands.proofs.equality.Goals as goal

pub returns-in_err-equal : goal.returns-in_err-equal
returns-in_err-equal c = let q = handed c.from_residual.ensures in rw q (equal-sides c.in_err-equal.ensures)

pub want-requires : goal.want-requires
want-requires c = ((sides-next c.requires c.in_ok-equal.ensures).inside, tt)

pub returns-in_err-closing : goal.returns-in_err-closing
returns-in_err-closing c = let q = handed c.from_residual-in_err-closing.ensures in rw q (equal-close c.in_ok-equal.ensures c.in_err-closing.ensures)

pub note_equal-noted-requires : goal.note_equal-noted-requires
note_equal-noted-requires c = let r = ask-room (sides-next c.requires c.in_ok-equal.ensures) in let k = r.records in (r.long, r.fields, omega arith)

pub returns : goal.returns
returns c = equal-good c.in_ok-equal.ensures c.in_ok-closing.ensures _ c.note_equal-noted.ensures c.finish.ensures
