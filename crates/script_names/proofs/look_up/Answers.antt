use mathlib.Core.Path.{refl}
use Rattle.script_names.proofs.Held.{shelved, looks-not, looks-there}
use Rattle.script_names.proofs.look_up.Goals as goal

pub find-requires : goal.find-requires
find-requires c = shelved c.requires c.from-n.ensures c.key_of-key.ensures.0 c.cell-head.ensures c.from.ensures

pub returns-in_default : goal.returns-in_default
returns-in_default c = looks-not c.from-n.ensures c.in_default.ensures 0 0

pub returns : goal.returns
returns c = looks-there c.from-n.ensures c.in-Some.ensures.0 refl c.cell.ensures
