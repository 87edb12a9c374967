use native.Mathlib.Omega.{arith}
use Rattle.script_steps.proofs.Outcomes.{handed}
use Rattle.script_commands.proofs.Asking.{ask-on, ask-room, sides-next}
use Rattle.script_commands.proofs.Making.{negate-open, negate_word, negate-sides, negate-inner, negate-close, negate_good}
use Rattle.script_commands.proofs.negation.Goals as goal

pub returns-in_err-opening : goal.returns-in_err-opening
returns-in_err-opening c = let q = handed c.from_residual.ensures in rw q (negate-open c.in_err-opening.ensures)

pub returns-in_err-equals : goal.returns-in_err-equals
returns-in_err-equals c = let q = handed c.from_residual-in_err-equals.ensures in rw q (negate_word c.in_ok-opening.ensures c.in_err-equals.ensures)

pub sides-requires : goal.sides-requires
sides-requires c = ask-on c.requires c.in_ok-equals.ensures.out.holds.inside

pub returns-in_err-equal : goal.returns-in_err-equal
returns-in_err-equal c = let q = handed c.from_residual-in_err-equal.ensures in rw q (negate-sides c.in_ok-opening.ensures c.in_ok-equals.ensures c.in_err-equal.ensures)

pub want-requires-3 : goal.want-requires-3
want-requires-3 c = ((sides-next (ask-on c.requires c.in_ok-equals.ensures.out.holds.inside) c.in_ok-equal.ensures).inside, tt)

pub returns-in_err-inner : goal.returns-in_err-inner
returns-in_err-inner c = let q = handed c.from_residual-in_err-inner.ensures in rw q (negate-inner c.in_ok-opening.ensures c.in_ok-equals.ensures c.in_ok-equal.ensures c.in_err-inner.ensures)

pub returns-in_err-closing : goal.returns-in_err-closing
returns-in_err-closing c = let q = handed c.from_residual-in_err-closing.ensures in rw q (negate-close c.in_ok-opening.ensures c.in_ok-equals.ensures c.in_ok-equal.ensures c.in_ok-inner.ensures c.in_err-closing.ensures)

pub note_differ-noted-requires : goal.note_differ-noted-requires
note_differ-noted-requires c = let r = ask-room (sides-next (ask-on c.requires c.in_ok-equals.ensures.out.holds.inside) c.in_ok-equal.ensures) in let k = r.differs in (r.long, r.fields, omega arith)

pub returns : goal.returns
returns c = negate_good c.in_ok-opening.ensures c.in_ok-equals.ensures c.in_ok-equal.ensures c.in_ok-inner.ensures c.in_ok-closing.ensures _ c.note_differ-noted.ensures c.finish.ensures
