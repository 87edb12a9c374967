-- `harness_find::offer` meets its contract: nothing is tried from a tag of another level.
-- Assumes nothing.
use mathlib.Core.Path.{◌∙◌}
use Rattle.harness_find.proofs.Trying.{offered-far}
use Rattle.harness_find.proofs.offer.Goals as goal

pub returns : goal.returns
returns c = offered-far c.requires.0 _ _ _ (λ q. c.if-level-d.false (c.level.ensures ∙ q))
