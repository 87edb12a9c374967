-- `moment::age_after` meets its contract: the loop counts the joins below a, as the definition does.
-- Assumes nothing.
use mathlib.Core.Path.{◌≡◌}
use Prim.Native.Nat.{◌≤◌}
use lib.Dec.{leb}
use Rattle.meaning.specs.Joins.{count}
use Rattle.table.specs.Map.{when_of}
use Rattle.moment.proofs.age_after.Given as goal

abbrev pub invariant-loop-a : goal.invariant-loop-a
invariant-loop-a l = (l.n ≤ l.a) × (l.n ≡ count (λ i. leb (when_of l.work i) l.before) l.a)
