-- `reason::explain` meets its contract: the newest join between two tags, if there is one, was made by the first record that makes them
-- equal, so its record tells whether they are equal at the question. Assumes nothing.
use mathlib.Core.Path.{sym, ◌∙◌}
use borrow.Author.Tests.{eqb-false, eqb-true}
use native.Mathlib.Omega.{arith}
use Rattle.moment.proofs.Kept.{past-forest}
use Rattle.reason.proofs.Whole.{answer-same, answer-never, answer-later, answer-because, asks-reason}
use Rattle.reason.proofs.explain.Goals as goal

pub returns-then-eq : goal.returns-then-eq
returns-then-eq c = answer-same c.requires (eqb-true _ _ (sym c.eq.ensures ∙ c.if-eq.true))

pub met-requires : goal.met-requires
met-requires c = record { forested = past-forest c.requires.past; s_lt_most_tags = (omega (arith, c.requires.s-tag, c.requires.past.loaded.few), omega (arith, c.requires.t-tag, c.requires.past.loaded.few), (eqb-false _ _ (sym c.eq.ensures ∙ c.if-eq.false))) }

pub returns-in_err-b : goal.returns-in_err-b
returns-in_err-b c = rw c.from_residual.ensures (answer-never c.requires c.in_err-b.ensures)

pub made-requires : goal.made-requires
made-requires c = (c.requires.past.loaded.long, c.in_ok-b.ensures.1)

pub returns-then-made-before : goal.returns-then-made-before
returns-then-made-before c = answer-later c.requires c.in_ok-b.ensures c.made.ensures c.if-made-before.true

pub reason-requires : goal.reason-requires
reason-requires c = asks-reason c.requires (eqb-false _ _ (sym c.eq.ensures ∙ c.if-eq.false)) c.in_ok-b.ensures

pub returns : goal.returns
returns c = answer-because c.requires c.made.ensures c.if-made-before.false c.reason.ensures
