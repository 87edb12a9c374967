-- `step` meets its contract. Assumes nothing.
use native.Mathlib.Omega.{arith}
use Rattle.list_add.proofs.step.Goals as goal

pub overflow_sub-j : goal.overflow_sub-j
overflow_sub-j c = omega (arith, c.requires.1)

pub twin-p-requires : goal.twin-p-requires
twin-p-requires c = (c.requires.0, omega (arith, c.requires.1))

pub pop-requires : goal.pop-requires
pop-requires c = (c.requires.0, c.requires.1, c.twin-p.ensures.none c.if-p-eq0.true)

pub returns-then-p-eq0 : goal.returns-then-p-eq0
returns-then-p-eq0 c = c.pop.ensures

pub meet-requires : goal.meet-requires
meet-requires c = (c.requires.0, omega (arith, c.requires.1), c.twin-p.ensures, omega (arith, c.if-p-eq0.false))

pub returns : goal.returns
returns c = c.meet.ensures
