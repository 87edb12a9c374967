-- `harness_find::search` meets its contract: a level more while t is not found, and it is found within the records of a way to it.
-- Assumes nothing.
use Prim.Native.Nat.{ℕ, ◌-◌}
use Rattle.meaning.specs.Limits.{most_tags}
use Rattle.harness_find.proofs.Looking.{Looking}
use Rattle.harness_find.proofs.search.Given as goal

abbrev pub invariant-loop-work : goal.invariant-loop-work
invariant-loop-work l = (s : ℕ) → Looking l.initial.work l.initial.work l.before s l.t.0 0 → Looking l.initial.work l.work l.before s l.t.0 l.d

abbrev pub decreases-loop-work : goal.decreases-loop-work
decreases-loop-work l = most_tags - l.d
