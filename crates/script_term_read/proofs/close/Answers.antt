use Rattle.std.proofs.Common.{⊎_elim}
use mathlib.Core.Path.{ap}
use Rattle.script_tokens.specs.Kinds.{number}
use Rattle.script_tokens.proofs.Apart.{number-apart}
use Rattle.script_term_read.proofs.Ways.{close-14, close-16, close-0, close-15, close-own, close_other}
use Rattle.script_term_read.proofs.close.Goals as goal

pub returns-in-Closing : goal.returns-in-Closing
returns-in-Closing c = record { told = λ c' x y z. close-14 c.read_at-x.ensures (ap number c.in-Closing.is) c.if-have-eq0.true }

pub returns-in-Closing-2 : goal.returns-in-Closing-2
returns-in-Closing-2 c = record { told = λ c' x y z. close-16 c.read_at-x.ensures (ap number c.in-Closing-2.is) c.if-have-eq0.false c.fits.ensures c.if-not-fits.true }

pub returns-in-Closing-3 : goal.returns-in-Closing-3
returns-in-Closing-3 c = record { told = close-0 c.read_at-x.ensures (ap number c.in-Closing-3.is) c.if-have-eq0.false c.fits.ensures c.if-not-fits.false }

pub returns-in-Opening : goal.returns-in-Opening
returns-in-Opening c = record { told = λ c' x y z. ⊎_elim (λ e. close-15 c.read_at-x.ensures (ap number e)) (λ e. close-own c.read_at-x.ensures (ap number e)) c.in-Opening.is }

pub returns-in_default : goal.returns-in_default
returns-in_default c = record { told = λ c' x y z. close_other c.read_at-x.ensures (number-apart c.in_default.not-Closing) (number-apart c.in_default.not-Opening) (number-apart c.in_default.not-Name) }
