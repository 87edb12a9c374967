-- `resolve` meets its contract. Where nothing was found the record is filed.
-- Assumes nothing.
use mathlib.Core.Path.{ap, sym, ◌∙◌}
use Rattle.table_labels.specs.Chain.{as_link}
use Prim.Native.Nat.{ℕ, ◌%◌, ◌<◌}
use native.Mathlib.Omega.{arith}
use Rattle.table.specs.Places.{bucket_count}
use Rattle.all_settle.proofs.Meeting.{met-quiet, first-place}
use Rattle.all_settle.proofs.resolve.Goals as goal

bucket-low : (x : ℕ) → x % bucket_count < bucket_count
bucket-low x = omega arith

pub above-q-requires : goal.above-q-requires
above-q-requires c = (c.requires.state.indexed.filing, bucket-low c.args.x, (first-place c.requires.state).0)

pub returns-in-None : goal.returns-in-None
returns-in-None c =
    let f = c.file-first.ensures in
    met-quiet c.requires.state f.0 f.1 f.2 f.3
