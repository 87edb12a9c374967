-- `part_off` meets its contract: three stores. Assumes nothing.
use lib.ListN.{length-set}
use Rattle.list_rings.proofs.Linking.{lone}
use Rattle.list_rings.proofs.part_off.Goals as goal

pub put_label-requires : goal.put_label-requires
put_label-requires c = (rw (c.put_weight.ensures.size, c.put_member.ensures, length-set) c.requires.0, c.requires.1)

pub returns : goal.returns
returns c = lone c.requires.0 c.requires.1 c.put_member.ensures c.put_weight.ensures c.put_label.ensures
