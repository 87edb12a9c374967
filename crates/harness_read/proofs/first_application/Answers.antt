-- `harness_read::first_application` meets its contract: each turn goes on behind a field that is whole and no application.
-- Assumes nothing.
use mathlib.Core.Path.{sym, ◌∙◌}
use native.Mathlib.Omega.{arith}
use Rattle.harness_read.proofs.Walking.{walk_start, walk-found, walk_none, walk-next}
use Rattle.harness_read.proofs.first_application.Goals as goal

pub loop-at-init : goal.loop-at-init
loop-at-init c = walk_start c.args.job.now

pub returns-then-is_application : goal.returns-then-is_application
returns-then-is_application c = walk-found c.loop-at.invariant (sym c.if-is_application.true ∙ c.is_application.ensures)

pub returns-then-ends : goal.returns-then-ends
returns-then-ends c = walk_none c.loop-at.invariant (sym c.if-is_application.false ∙ c.is_application.ensures) c.read.ensures c.ends.ensures c.if-ends.true

pub behind-at-requires : goal.behind-at-requires
behind-at-requires c = c.loop-at.invariant.within

pub loop-at-smaller : goal.loop-at-smaller
loop-at-smaller c = let h = walk-next c.loop-at.invariant (sym c.if-is_application.false ∙ c.is_application.ensures) c.read.ensures c.ends.ensures c.if-ends.false c.behind-at.ensures in omega (arith, h.0, h.1.within)

pub loop-at-preserved : goal.loop-at-preserved
loop-at-preserved c = (walk-next c.loop-at.invariant (sym c.if-is_application.false ∙ c.is_application.ensures) c.read.ensures c.ends.ensures c.if-ends.false c.behind-at.ensures).1
