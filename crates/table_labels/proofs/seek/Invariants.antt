-- `seek` meets its contract. What the rest of the chain has for the key is what the whole has; links fall, so p is the measure.
-- Assumes nothing.
use Rattle.std.proofs.Common.{◌≡◌, ◌≤◌}
use Rattle.table_labels.specs.Chain.{seek_to, hits}
use Rattle.table_labels.specs.Parts.{place_key}
use Rattle.table_labels.proofs.seek.Given as goal

abbrev pub invariant-loop-p : goal.invariant-loop-p
invariant-loop-p g l = (l.p ≤ l.from) × (seek_to (g.C.Chains.leads l.work) (hits (place_key l.work) l.x) l.p ≡ seek_to (g.C.Chains.leads l.work) (hits (place_key l.work) l.x) l.from)

abbrev pub decreases-loop-p : goal.decreases-loop-p
decreases-loop-p g l = l.p
