-- `name` meets its contract: each turn labels one more, on the way back to x. Assumes nothing.
use Rattle.list_ways.specs.Rings.{away}
use Rattle.list_rings.proofs.Linking.{Naming}
use Rattle.meaning.specs.Limits.{most_tags}
use Rattle.table.specs.Map.{member_of}
use Rattle.list_rings.proofs.name.Given as goal

abbrev pub invariant-loop-z : goal.invariant-loop-z
invariant-loop-z l = Naming l.initial.work l.work l.x.0 l.v.0 l.z.0

abbrev pub decreases-loop-z : goal.decreases-loop-z
decreases-loop-z l = away (member_of l.initial.work) l.x.0 most_tags l.z.0
