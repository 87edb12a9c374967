-- `harness_find::far` meets its contract: a test of the first end.
-- Assumes nothing.
use mathlib.Core.Path.{sym, ◌∙◌}
use borrow.Author.Tests.{eqb-true, eqb-false}
use Rattle.table.specs.Map.{left_of, right_of}
use Rattle.harness_find.proofs.Places.{far-first, far-second}
use Rattle.harness_find.proofs.far.Goals as goal

pub returns-then-eq : goal.returns-then-eq
returns-then-eq c = let w = c.args.work.now in far-second (left_of w) (right_of w) (eqb-true _ _ (sym c.eq.ensures ∙ c.if-eq.true)) c.left-a.ensures c.right.ensures

pub returns : goal.returns
returns c = let w = c.args.work.now in far-first (left_of w) (right_of w) (eqb-false _ _ (sym c.eq.ensures ∙ c.if-eq.false)) c.left-a.ensures
