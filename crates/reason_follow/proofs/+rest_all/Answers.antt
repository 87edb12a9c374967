-- `reason_follow::rest_all` meets its contract: the joins below the newest one are given what they rest on after it, since it rests on older ones alone. Assumes nothing.
use native.Mathlib.Omega.{arith}
use Rattle.moment.proofs.Kept.{holds-fewer}
use Rattle.reason_follow.proofs.Crossing.{kept-still}
use Rattle.reason_follow.proofs.Sweep.{remembers-fewer, swept_none, swept-more}
use Rattle.reason_follow.proofs.+rest_all.Goals as goal

pub rest-requires : goal.rest-requires
rest-requires t c = (holds-fewer (omega (arith, c.if-limit-gt0.true)) c.requires.0, remembers-fewer (omega (arith, c.if-limit-gt0.true)) c.requires.1)

pub rest_all-requires : goal.rest_all-requires
rest_all-requires t c = (omega arith, (kept-still c.rest.ensures.kept (holds-fewer (omega arith) c.requires.0), c.rest.ensures.remembers))

pub returns-then-limit-gt0 : goal.returns-then-limit-gt0
returns-then-limit-gt0 t c = swept-more (omega (arith, c.if-limit-gt0.true)) c.rest.ensures c.rest_all.ensures

pub returns-else-limit-gt0 : goal.returns-else-limit-gt0
returns-else-limit-gt0 t c = swept_none _ _ (omega (arith, c.if-limit-gt0.false))
