-- `split` meets its contract: weights are no part of a ring. Assumes nothing.
use native.Mathlib.Omega.{arith}
use Rattle.list_rings.proofs.Linking.{exchanged-weighed}
use Rattle.list_rings.proofs.split.Goals as goal

pub swap-requires : goal.swap-requires
swap-requires c = c.requires

pub weight-a-requires : goal.weight-a-requires
weight-a-requires c = (omega (arith, c.swap.ensures.kept.size, c.requires.0), c.requires.1)

pub weight-b-requires : goal.weight-b-requires
weight-b-requires c = (omega (arith, c.swap.ensures.kept.size, c.requires.0), c.requires.2)

pub overflow_add-b : goal.overflow_add-b
overflow_add-b c = omega (arith, c.weight-a.ensures, c.weight-b.ensures)

pub overflow_sub-b : goal.overflow_sub-b
overflow_sub-b c = omega (arith, c.weight-a.ensures, c.weight-b.ensures)

pub put_weight-requires : goal.put_weight-requires
put_weight-requires c = (omega (arith, c.swap.ensures.kept.size, c.requires.0), c.requires.2)

pub returns : goal.returns
returns c = exchanged-weighed c.swap.ensures c.put_weight.ensures
