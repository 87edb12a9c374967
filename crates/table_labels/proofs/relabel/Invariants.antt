-- `relabel` meets its contract. When so many numbers are passed, they are mapped and the rest is as it was.
-- Assumes nothing.
use Rattle.std.proofs.Common.{◌≡◌, ◌++◌, map, take, drop}
use Rattle.meaning.specs.Labels.{into}
use Rattle.table_labels.proofs.relabel.Given as goal

abbrev pub invariant-loop-x : goal.invariant-loop-x
invariant-loop-x l = l.part ≡ map (into l.lo l.hi) (take l.x-index l.fn.part) ++ drop l.x-index l.fn.part
