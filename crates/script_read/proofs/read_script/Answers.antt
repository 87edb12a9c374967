use Rattle.script_steps.proofs.Outcomes.{handed}
use Rattle.script_read.proofs.Running.{script-logic, script-sort, script-whole, commands-ask}
use Rattle.script_read.proofs.read_script.Goals as goal

pub returns-in_err-at : goal.returns-in_err-at
returns-in_err-at c = let q = handed c.from_residual.ensures in rw q (script-logic c.in_err-at.ensures)

pub returns-in_err-sort : goal.returns-in_err-sort
returns-in_err-sort c = let q = handed c.from_residual-in_err-sort.ensures in rw q (script-sort c.in_ok-at.ensures c.in_err-sort.ensures)

pub commands-requires : goal.commands-requires
commands-requires c = commands-ask c.begin-counts.ensures c.requires.0 c.in_ok-sort.ensures

pub returns : goal.returns
returns c = script-whole c.in_ok-at.ensures c.in_ok-sort.ensures _ c.commands.ensures
