use mathlib.Core.Path.{refl}
use Rattle.script_parts.proofs.Meets.{shelved, meets-old, meets-new}
use Rattle.script_parts.proofs.meet.Goals as goal

pub find-requires : goal.find-requires
find-requires c = shelved c.requires c.from-n.ensures c.key_of-key.ensures.0 c.cell-head.ensures c.from.ensures

pub returns-in-Some : goal.returns-in-Some
returns-in-Some c = meets-old c.in-Some.k c.from-n.ensures c.in-Some.ensures.0 refl

pub returns : goal.returns
returns c = meets-new c.from-n.ensures c.in_default.ensures c.put.ensures c.key_of-key.ensures.0 c.cell-head.ensures refl
