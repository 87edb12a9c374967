-- `reason_follow::forget` meets its contract. Assumes nothing.
use Rattle.reason_follow.proofs.Crossing.{forgot}
use native.Mathlib.Omega.{arith}
use Prim.Native.Nat.{◌*◌}
use Rattle.meaning.specs.Limits.{most_tags}
use Rattle.reason_follow.proofs.forget.Goals as goal

pub fresh-requires : goal.fresh-requires
fresh-requires c = c.requires

pub put_next-requires : goal.put_next-requires
put_next-requires c = (omega (arith, c.requires, c.fresh.ensures.frame.size), omega arith, omega arith)

pub returns : goal.returns
returns c = forgot {i = 2 * most_tags} (omega arith) c.fresh.ensures c.put_next.ensures
