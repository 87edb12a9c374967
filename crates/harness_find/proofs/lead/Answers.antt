-- `harness_find::lead` meets its contract: a tag is new, or of the next level, or neither.
-- Assumes nothing.
use mathlib.Core.Path.{refl, sym, ◌∙◌}
use Rattle.harness_find.proofs.Trying.{offered-new, offered-low}
use Rattle.harness_find.proofs.lead.Goals as goal

pub returns-then-l-eq-UNFOUND : goal.returns-then-l-eq-UNFOUND
returns-then-l-eq-UNFOUND c = offered-new c.requires.0 _ _ _ c.requires.1 c.requires.2 (sym c.level-l.ensures ∙ c.if-l-eq-UNFOUND.true) refl c.put_level.ensures c.put_last_record.ensures

pub returns : goal.returns
returns c = offered-low c.requires.0 _ _ _ c.requires.1 (λ q. c.if-l-eq-UNFOUND.false (c.level-l.ensures ∙ q)) (λ q. c.if-l-d.false (c.level-l.ensures ∙ q))
