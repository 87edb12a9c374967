-- `lead` meets its contract.
-- Assumes nothing.
use native.Mathlib.Omega.{arith}
use Rattle.all_index.proofs.Placing.{led-head, led-rest}
use Rattle.all_index.proofs.lead.Goals as goal

pub put_bucket-requires : goal.put_bucket-requires
put_bucket-requires c = (c.requires.0, c.requires.1, c.requires.3)

pub returns-then-q-eq0 : goal.returns-then-q-eq0
returns-then-q-eq0 c = led-head c.requires.0 c.requires.1 c.if-q-eq0.true c.put_bucket.ensures

pub overflow_sub-q : goal.overflow_sub-q
overflow_sub-q c = omega arith

pub put_chain-requires : goal.put_chain-requires
put_chain-requires c = (c.requires.0, omega (arith, c.requires.2), c.requires.3)

pub returns : goal.returns
returns c = led-rest c.requires.0 c.requires.2 c.if-q-eq0.false c.put_chain.ensures
