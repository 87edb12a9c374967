-- `harness_find::search` meets its contract: a level more while t is not found, and it is found within the records of a way to it.
-- Assumes nothing.
use mathlib.Core.Path.{sym, ◌∙◌}
use native.Mathlib.Omega.{arith}
use Rattle.harness_find.proofs.Looking.{look-start, look-rising, look-on, look-end}
use Rattle.harness_find.proofs.search.Goals as goal

pub begin-requires : goal.begin-requires
begin-requires c = (c.requires.long, c.requires.from)

pub loop-work-init : goal.loop-work-init
loop-work-init c = λ s h. h

pub level-requires : goal.level-requires
level-requires c = let h = c.loop-work.invariant _ (look-start c.requires c.begin.ensures) in (h.sought.long, h.sought.to)

pub rise-requires : goal.rise-requires
rise-requires c = look-rising (c.loop-work.invariant _ (look-start c.requires c.begin.ensures))

pub overflow_add-d : goal.overflow_add-d
overflow_add-d c = let h = c.loop-work.invariant _ (look-start c.requires c.begin.ensures) in omega (arith, h.deep)

pub loop-work-smaller : goal.loop-work-smaller
loop-work-smaller c = let h = c.loop-work.invariant _ (look-start c.requires c.begin.ensures) in omega (arith, h.deep)

pub loop-work-preserved : goal.loop-work-preserved
loop-work-preserved c = λ s h. look-on (c.loop-work.invariant s h) (sym c.level.ensures ∙ c.loop-work-test.true) c.rise.ensures

pub level-requires-2 : goal.level-requires-2
level-requires-2 c = let h = c.loop-work.invariant _ (look-start c.requires c.begin.ensures) in (h.sought.long, h.sought.to)

pub returns : goal.returns
returns c = look-end c.begin.ensures.kept (c.loop-work.invariant _ (look-start c.requires c.begin.ensures)) (λ q. c.loop-work-test.false (c.level.ensures ∙ q)) c.level-2.ensures
