-- `harness_find::begin` meets its contract.
-- Assumes nothing.
use native.Mathlib.Omega.{arith}
use Rattle.harness_find.proofs.Looking.{begins}
use Rattle.harness_find.proofs.begin.Goals as goal

pub put_level-requires : goal.put_level-requires
put_level-requires c = (omega (arith, c.clear_levels.ensures.kept.size, c.requires.0), c.requires.1, omega arith)

pub returns : goal.returns
returns c = begins c.requires.0 c.requires.1 c.clear_levels.ensures c.put_level.ensures
