-- `pairs::came` meets its contract: a tag is equal to itself without a record, and the newest join between two tags was made at the
-- first record that makes them equal. Assumes nothing.
use mathlib.Core.Path.{sym, ◌∙◌}
use borrow.Author.Tests.{eqb-false, eqb-true}
use native.Mathlib.Omega.{arith}
use Rattle.moment.proofs.Kept.{past-forest}
use Rattle.pairs.proofs.Coming.{came_same, came-never, came-met}
use Rattle.pairs.proofs.came.Goals as goal

pub returns-then-eq : goal.returns-then-eq
returns-then-eq c = came_same c.requires.past c.args.q.before _ _ c.requires.early (eqb-true _ _ (sym c.eq.ensures ∙ c.if-eq.true))

pub met-requires : goal.met-requires
met-requires c = record { forested = past-forest c.requires.past; s_lt_most_tags = (omega (arith, c.requires.from, c.requires.past.loaded.few), omega (arith, c.requires.to, c.requires.past.loaded.few), (eqb-false _ _ (sym c.eq.ensures ∙ c.if-eq.false))) }

pub overflow_add-result : goal.overflow_add-result
overflow_add-result c = omega (arith, c.requires.early, c.requires.past.loaded.most)

pub returns-in-None : goal.returns-in-None
returns-in-None c = came-never c.requires.past c.args.q.before _ _ c.requires.early c.in-None.ensures

pub made-requires : goal.made-requires
made-requires c = (c.requires.past.loaded.long, c.in-Some.ensures.1)

pub returns-in-Some : goal.returns-in-Some
returns-in-Some c = came-met c.requires.past c.args.q.before _ _ c.requires.early _ _ c.in-Some.ensures c.made.ensures
