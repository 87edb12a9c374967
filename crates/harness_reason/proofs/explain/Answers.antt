-- `harness_reason::explain` meets its contract: the newest join tells whether the tags are equal at the question, and the search why.
-- Assumes nothing.
use borrow.Author.Tests.{eqb-true, eqb-false}
use mathlib.Core.Path.{sym, ◌∙◌}
use native.Mathlib.Omega.{arith}
use Rattle.moment.proofs.Kept.{past-forest}
use Rattle.harness_reason.proofs.Answering.{answer-same, answer-apart, answer-after, asks-shortest, answer-shortest}
use Rattle.harness_reason.proofs.explain.Goals as goal

pub returns-then-eq : goal.returns-then-eq
returns-then-eq c = answer-same c.requires.question (eqb-true _ _ (sym c.eq.ensures ∙ c.if-eq.true))

pub met-requires : goal.met-requires
met-requires c = let q = c.requires.question in record { forested = past-forest q.past; s_lt_most_tags = (omega (arith, q.s-tag, q.past.loaded.few), omega (arith, q.t-tag, q.past.loaded.few), (eqb-false _ _ (sym c.eq.ensures ∙ c.if-eq.false))) }

pub returns-in_err-b : goal.returns-in_err-b
returns-in_err-b c = rw c.from_residual.ensures (answer-apart c.requires.question c.in_err-b.ensures)

pub made-requires : goal.made-requires
made-requires c = (c.requires.question.past.loaded.long, c.in_ok-b.ensures.1)

pub returns-then-made-before : goal.returns-then-made-before
returns-then-made-before c = answer-after c.requires.question c.in_ok-b.ensures c.made.ensures c.if-made-before.true

pub shortest-requires : goal.shortest-requires
shortest-requires c = record { tags = c.args.size; records = c.args.len; equal = asks-shortest c.requires.question c.requires.plain c.in_ok-b.ensures c.made.ensures c.if-made-before.false }

pub returns : goal.returns
returns c = answer-shortest c.requires.question (asks-shortest c.requires.question c.requires.plain c.in_ok-b.ensures c.made.ensures c.if-made-before.false) c.shortest.ensures
