-- Each arm stores what `carry` stores, since the test of the kind is the one that `carry` makes.
-- By the contracts of the two stores.
-- Assumes nothing.
use mathlib.Core.Path.{◌∙◌}
use Rattle.records_fill.proofs.Loading.{carry-equation, carry-application}
use Rattle.records_fill.proofs.load_one.Goals as goal

pub returns-then-p-eq1 : goal.returns-then-p-eq1
returns-then-p-eq1 c = let s = c.args in rw c.record_at-r.ensures at c.put_equation.ensures ∙ carry-equation s.work.now s.i s.p c.if-p-eq1.true

pub returns-else-p-eq1 : goal.returns-else-p-eq1
returns-else-p-eq1 c = let s = c.args in rw c.record_at-r.ensures at c.put_application.ensures ∙ carry-application s.work.now s.i s.p c.if-p-eq1.false
