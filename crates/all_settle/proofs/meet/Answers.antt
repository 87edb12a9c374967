-- `meet` meets its contract. What was found is what the chains have for the key.
-- Assumes nothing.
use mathlib.Core.Path.{◌≡◌, ap, ◌∙◌}
use native.Mathlib.Omega.{arith}
use Rattle.table_labels.specs.Parts.{key_in}
use Rattle.all_index.specs.State.{key_at, found_in}
use Rattle.all_index.proofs.Views.{row-readable}
use Rattle.all_settle.proofs.Meeting.{first-place, first-most}
use Rattle.all_settle.proofs.meet.Goals as goal

pub number-requires : goal.number-requires
number-requires c = first-most c.requires

pub key-x-requires : goal.key-x-requires
key-x-requires c = row-readable c.requires.standing.loaded c.args.j (omega (arith, (first-place c.requires).0, c.requires.standing.reach)) _ c.number.ensures
