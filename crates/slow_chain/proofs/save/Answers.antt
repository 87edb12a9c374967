-- `save` meets its contract: one region is copied to another.
-- Assumes nothing.
use Rattle.std.proofs.Common.{refl}
use Rattle.table.specs.Places.{LABEL, SAVED}
use Rattle.slow_chain.proofs.Views.{copied-frame, copied-seen}
use Rattle.slow_chain.proofs.save.Goals as goal

pub returns : goal.returns
returns c =
    let e = c.copy_within.ensures in
    record {
      frame = copied-frame _ _ LABEL SAVED refl refl e.len e.by_index.0 e.by_index.1 e.by_index.2;
      saved = copied-seen _ _ LABEL SAVED refl refl e.len e.by_index.0 e.by_index.1 e.by_index.2;
    }
