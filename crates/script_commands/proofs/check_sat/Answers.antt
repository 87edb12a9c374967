use native.Mathlib.Omega.{arith}
use Rattle.script_steps.proofs.Outcomes.{handed}
use Rattle.script_commands.proofs.Asking.{ask-room}
use Rattle.script_commands.proofs.Making.{check-close, check-good}
use Rattle.script_commands.proofs.check_sat.Goals as goal

pub returns-in_err-closing : goal.returns-in_err-closing
returns-in_err-closing c = let q = handed c.from_residual.ensures in rw q (check-close c.in_err-closing.ensures)

pub note_check-noted-requires : goal.note_check-noted-requires
note_check-noted-requires c = let r = ask-room c.requires in let k = r.checks in (r.long, r.fields, omega arith)

pub returns : goal.returns
returns c = check-good c.in_ok-closing.ensures _ c.note_check-noted.ensures c.finish.ensures
