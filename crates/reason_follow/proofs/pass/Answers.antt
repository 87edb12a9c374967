-- `reason_follow::pass` meets its contract: each step weighs less than what was left. Assumes nothing.
use native.Mathlib.Omega.{arith}
use borrow.Author.Tests.{eqb-false, eqb-true}
use mathlib.Core.Path.{sym, ◌∙◌}
use Rattle.reason_follow.proofs.Ways.{way_long, way-start, way_end}
use Rattle.reason_follow.proofs.pass.Goals as goal

pub loop-t-init : goal.loop-t-init
loop-t-init c = way-start c.requires.0 c.requires.1

pub level-requires : goal.level-requires
level-requires c = let o = c.loop-t.invariant in (way_long o, omega (arith, o.x-tag, o.y-tag), c.requires.0.to)

pub step-p-requires : goal.step-p-requires
step-p-requires c = (record { w₀ = c.args.work.now; limit = c.args.limit; s = c.args.s.0; way = c.loop-t.invariant }, eqb-false _ _ (sym c.level.ensures ∙ c.loop-t-test.true))

pub loop-t-smaller : goal.loop-t-smaller
loop-t-smaller c = c.step-p.ensures.falls

pub loop-t-preserved : goal.loop-t-preserved
loop-t-preserved c = c.step-p.ensures.way _ _ _ c.loop-t.invariant

pub returns : goal.returns
returns c = way_end c.requires.0 c.loop-t.invariant (eqb-true _ _ (sym c.level.ensures ∙ c.loop-t-test.false))
