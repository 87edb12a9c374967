use Rattle.script_write.proofs.Fields.{pair-laid}
use Rattle.script_write.proofs.put_pair.Goals as goal

pub returns : goal.returns
returns c = pair-laid _ _ _ _ _ _ _ _ c.requires c.put_front.ensures c.put_number.ensures c.put_number-2.ensures
