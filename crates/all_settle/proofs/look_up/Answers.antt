-- `look_up` meets its contract: the search begins where the bucket of the key does.
-- Assumes nothing.
use Prim.Native.Nat.{ℕ, ◌%◌, ◌<◌}
use native.Mathlib.Omega.{arith}
use Rattle.table.specs.Places.{bucket_count}
use Rattle.all_settle.proofs.Meeting.{look-found}
use Rattle.all_settle.proofs.look_up.Goals as goal

pub returns : goal.returns
returns c = look-found c.args.work.now c.args.x _ _ c.bucket-from.ensures c.seek.ensures
