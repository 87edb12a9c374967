-- `answer_why::put_leader` meets its contract: the number laid is the leader that the table has for the tag.
-- Assumes nothing.
use Rattle.answer_why.proofs.put_leader.Goals as goal

pub leader_of-l-requires : goal.leader_of-l-requires
leader_of-l-requires c = rw c.tag_at.ensures (c.requires.0, c.requires.1, c.requires.2)

pub returns : goal.returns
returns c = rw (c.leader_of-l.ensures, c.tag_at.ensures) at c.put_tag.ensures
