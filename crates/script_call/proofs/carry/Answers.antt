use Rattle.script_call.proofs.Carrying.{part-enough, carried-part}
use Rattle.script_call.proofs.carry.Goals as goal

pub convert-requires : goal.convert-requires
convert-requires c = part-enough c.requires

pub returns : goal.returns
returns c = carried-part c.requires c.convert.auto.part c.convert.ensures
