use Rattle.script_steps.proofs.Outcomes.{handed}
use Rattle.script_read.proofs.Opening.{sort-open, sort-word, sort-name, sort-nought, sort-close, sort-whole}
use Rattle.script_read.proofs.declare_sort.Goals as goal

pub returns-in_err-opening : goal.returns-in_err-opening
returns-in_err-opening c = let q = handed c.from_residual.ensures in rw q (sort-open c.in_err-opening.ensures)

pub returns-in_err-word : goal.returns-in_err-word
returns-in_err-word c = let q = handed c.from_residual-in_err-word.ensures in rw q (sort-word c.in_ok-opening.ensures c.in_err-word.ensures)

pub returns-in_err-name : goal.returns-in_err-name
returns-in_err-name c = let q = handed c.from_residual-in_err-name.ensures in rw q (sort-name c.in_ok-opening.ensures c.in_ok-word.ensures c.in_err-name.ensures)

pub returns-in_err-nought : goal.returns-in_err-nought
returns-in_err-nought c = let q = handed c.from_residual-in_err-nought.ensures in rw q (sort-nought c.in_ok-opening.ensures c.in_ok-word.ensures c.in_ok-name.ensures c.in_err-nought.ensures)

pub returns-in_err-closing : goal.returns-in_err-closing
returns-in_err-closing c = let q = handed c.from_residual-in_err-closing.ensures in rw q (sort-close c.in_ok-opening.ensures c.in_ok-word.ensures c.in_ok-name.ensures c.in_ok-nought.ensures c.in_err-closing.ensures)

pub returns : goal.returns
returns c = sort-whole c.in_ok-opening.ensures c.in_ok-word.ensures c.in_ok-name.ensures c.in_ok-nought.ensures c.in_ok-closing.ensures
