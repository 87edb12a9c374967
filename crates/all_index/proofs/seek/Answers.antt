-- `seek` meets its contract: the chains of what is filed lead down, and their records can be read.
-- Assumes nothing.
use native.Mathlib.Omega.{arith}
use mathlib.Core.Path.{refl}
use Rattle.all_index.proofs.Filing.{falls'}
use Rattle.all_index.proofs.Views.{row-readable}
use Rattle.all_index.proofs.seek.Goals as goal

pub seek-requires : goal.seek-requires
seek-requires c = record { falls = falls' c.requires.0.filed; readable = λ j l. row-readable c.requires.0.loaded j (omega (arith, l, c.requires.1, c.requires.0.reach)) _ refl }
