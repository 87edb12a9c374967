-- `seek_class` meets its contract: each turn looks among the uses of one more tag, on the way back to x. Assumes nothing.
use Rattle.list_ways.specs.Rings.{away}
use Rattle.list_add.proofs.Seeks.{Searching}
use Rattle.meaning.specs.Limits.{most_tags}
use Rattle.table.specs.Map.{member_of}
use Rattle.list_add.proofs.seek_class.Given as goal

abbrev pub invariant-loop-z : goal.invariant-loop-z
invariant-loop-z l = Searching l.second l.work l.x.0 l.z.0 l.a.0 l.c.0

abbrev pub decreases-loop-z : goal.decreases-loop-z
decreases-loop-z l = away (member_of l.work) l.x.0 most_tags l.z.0
