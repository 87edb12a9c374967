use Rattle.script_steps.proofs.Outcomes.{handed}
use Rattle.script_commands.proofs.Asking.{side-next}
use Rattle.script_commands.proofs.Making.{sides_first, sides-second, sides-third, sides-good}
use Rattle.script_commands.proofs.sides.Goals as goal

pub returns-in_err-left : goal.returns-in_err-left
returns-in_err-left c = let q = handed c.from_residual.ensures in rw q (sides_first c.in_err-left.ensures)

pub side-requires-2 : goal.side-requires-2
side-requires-2 c = side-next c.requires c.in_ok-left.ensures

pub returns-in_err-right : goal.returns-in_err-right
returns-in_err-right c = let q = handed c.from_residual-in_err-right.ensures in rw q (sides-second c.in_ok-left.ensures c.in_err-right.ensures)

pub want-requires : goal.want-requires
want-requires c = ((side-next (side-next c.requires c.in_ok-left.ensures) c.in_ok-right.ensures).inside, tt)

pub returns-in_err-closing : goal.returns-in_err-closing
returns-in_err-closing c = let q = handed c.from_residual-in_err-closing.ensures in rw q (sides-third c.in_ok-left.ensures c.in_ok-right.ensures c.in_err-closing.ensures)

pub returns : goal.returns
returns c = sides-good c.in_ok-left.ensures c.in_ok-right.ensures c.in_ok-closing.ensures
