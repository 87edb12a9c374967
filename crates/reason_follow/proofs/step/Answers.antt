-- `reason_follow::step` meets its contract: both kinds of step do. Assumes nothing.
use borrow.Author.Tests.{eqb-false, eqb-true}
use mathlib.Core.Path.{sym, ◌∙◌, ap}
use Rattle.table.specs.Map.{label_of}
use Rattle.reason_follow.proofs.Ways.{way_long}
use Rattle.reason_follow.proofs.step.Goals as goal

pub level-requires : goal.level-requires
level-requires c = let o = c.requires.0.way in (way_long o, o.x-tag, o.y-tag)

pub cross-requires : goal.cross-requires
cross-requires c = (c.requires.0, eqb-true _ _ (sym c.level.ensures ∙ c.if-level.true), c.requires.1)

pub returns-then-level : goal.returns-then-level
returns-then-level c = c.cross.ensures

pub split-requires : goal.split-requires
split-requires c = (c.requires.0, λ q. eqb-false _ _ (sym c.level.ensures ∙ c.if-level.false) (ap (label_of _) q))

pub returns : goal.returns
returns c = c.split.ensures
