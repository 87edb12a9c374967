use mathlib.Core.Path.{◌∙◌}
use native.Mathlib.Omega.{arith}
use Rattle.script_shelf.proofs.Searching.{climb-start, below, climb-on, climb-falls, climb-hit, climb-missed}
use Rattle.script_shelf.proofs.seek.Goals as goal

pub loop-link-init : goal.loop-link-init
loop-link-init g c = climb-start c.requires _

pub passes-requires : goal.passes-requires
passes-requires g c = c.requires.asks _ (below c.requires _ c.loop-link.invariant c.loop-link-test.true)

pub cell-requires : goal.cell-requires
cell-requires g c = let h = below c.requires _ c.loop-link.invariant c.loop-link-test.true in (c.requires.long, omega (arith, c.requires.column))

pub returns-then-passes : goal.returns-then-passes
returns-then-passes g c = climb-hit c.requires _ c.loop-link.invariant c.loop-link-test.true c.passes.ensures c.if-passes.true

pub loop-link-smaller : goal.loop-link-smaller
loop-link-smaller g c = climb-falls c.requires _ c.loop-link.invariant c.loop-link-test.true (c.from-link.ensures ∙ c.cell.ensures)

pub loop-link-preserved : goal.loop-link-preserved
loop-link-preserved g c = climb-on c.requires _ c.loop-link.invariant c.loop-link-test.true c.passes.ensures c.if-passes.false (c.from-link.ensures ∙ c.cell.ensures)

pub returns : goal.returns
returns g c = climb-missed c.requires _ c.loop-link.invariant (omega arith)
