use mathlib.Core.Path.{ap}
use Rattle.script_tokens.specs.Kinds.{number}
use Rattle.script_tokens.proofs.Apart.{number-apart}
use Rattle.script_steps.proofs.Outcomes.{handed}
use Rattle.script_read.proofs.Opening.{leave-close, leave-more, leave-last}
use Rattle.script_read.proofs.leave.Goals as goal

pub returns-in_err-closing : goal.returns-in_err-closing
returns-in_err-closing c = let q = handed c.from_residual.ensures in rw q (leave-close c.in_err-closing.ensures)

pub returns-in_default : goal.returns-in_default
returns-in_default c = leave-more c.in_ok-closing.ensures c.read_at-x.ensures (number-apart c.in_default.not-End)

pub returns : goal.returns
returns c = leave-last c.in_ok-closing.ensures c.read_at-x.ensures (ap number c.in-End.is)
