use Rattle.script_steps.proofs.Outcomes.{handed}
use Rattle.script_read.proofs.Opening.{logic-open, logic-word, logic-name, logic-close, logic-whole}
use Rattle.script_read.proofs.set_logic.Goals as goal

pub returns-in_err-opening : goal.returns-in_err-opening
returns-in_err-opening c = let q = handed c.from_residual.ensures in rw q (logic-open c.in_err-opening.ensures)

pub returns-in_err-word : goal.returns-in_err-word
returns-in_err-word c = let q = handed c.from_residual-in_err-word.ensures in rw q (logic-word c.in_ok-opening.ensures c.in_err-word.ensures)

pub returns-in_err-logic : goal.returns-in_err-logic
returns-in_err-logic c = let q = handed c.from_residual-in_err-logic.ensures in rw q (logic-name c.in_ok-opening.ensures c.in_ok-word.ensures c.in_err-logic.ensures)

pub returns-in_err-closing : goal.returns-in_err-closing
returns-in_err-closing c = let q = handed c.from_residual-in_err-closing.ensures in rw q (logic-close c.in_ok-opening.ensures c.in_ok-word.ensures c.in_ok-logic.ensures c.in_err-closing.ensures)

pub returns : goal.returns
returns c = logic-whole c.in_ok-opening.ensures c.in_ok-word.ensures c.in_ok-logic.ensures c.in_ok-closing.ensures
