-- `judge_broken::is_breach` meets its contract: the bytes have room for a number, it is the pair's, and a reason stands behind it.
-- Assumes nothing.
use native.Mathlib.Omega.{arith}
use mathlib.Core.Path.{◌∙◌, sym}
use Rattle.judge_broken.proofs.Right.{breach-short, breach-another, breach-reason}
use Rattle.judge_broken.proofs.is_breach.Goals as goal

pub returns-then-bytes-lt2 : goal.returns-then-bytes-lt2
returns-then-bytes-lt2 c = breach-short c.if-bytes-lt2.true

pub number_in-requires : goal.number_in-requires
number_in-requires c = omega (arith, c.requires.1, c.if-bytes-lt2.false)

pub returns-then-from-number : goal.returns-then-from-number
returns-then-from-number c = breach-another c.number_in.ensures (λ e. c.if-from-number.true (c.from.ensures ∙ e))

pub is_reason-requires : goal.is_reason-requires
is_reason-requires c = (c.requires.0, omega (arith, c.requires.1, c.if-bytes-lt2.false))

pub returns : goal.returns
returns c = breach-reason (omega (arith, c.if-bytes-lt2.false)) c.number_in.ensures (sym c.from.ensures ∙ c.if-from-number.false) c.is_reason.ensures
