-- `reason_follow::known` meets its contract. Assumes nothing.
use native.Mathlib.Omega.{arith}
use Rattle.reason_follow.proofs.Ways.{nearest-first, nearest-last}
use Rattle.reason_follow.proofs.known.Goals as goal

pub returns-then-n-eq0 : goal.returns-then-n-eq0
returns-then-n-eq0 c = nearest-first _ _ _ c.if-n-eq0.true

pub overflow_sub-n : goal.overflow_sub-n
overflow_sub-n c = omega (arith, c.if-n-eq0.false)

pub waiting-r-requires : goal.waiting-r-requires
waiting-r-requires c = c.requires.last _ (omega (arith, c.if-n-eq0.false))

pub returns : goal.returns
returns c = nearest-last _ c.if-n-eq0.false c.waiting-r.ensures
