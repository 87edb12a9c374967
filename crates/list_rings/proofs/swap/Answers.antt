-- `swap` meets its contract: two stores. Assumes nothing.
use Rattle.list_rings.proofs.Linking.{exchanged}
use Rattle.list_rings.proofs.swap.Goals as goal

pub returns : goal.returns
returns c = exchanged c.requires.0 c.requires.1 c.requires.2 c.member-k.ensures c.member-l.ensures c.put_member.ensures c.put_member-2.ensures
