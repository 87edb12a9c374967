use Rattle.script_write.proofs.Fields.{triple-laid}
use Rattle.script_write.proofs.put_triple.Goals as goal

pub returns : goal.returns
returns c = triple-laid _ _ _ _ _ _ _ _ _ c.requires c.put_front.ensures c.put_number.ensures c.put_number-2.ensures c.put_number-3.ensures
