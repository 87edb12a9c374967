-- `answer_all::answer_question` meets its contract, question by question.
-- Assumes nothing.
use mathlib.Core.Path.{ap}
use Rattle.job_field.specs.Answer.{question_said}
use Rattle.answer_all.proofs.Midway.{ask-replied, why-replied, asked-explaining, explained-replied}
use Rattle.answer_all.proofs.answer_question.Goals as goal

pub answer_ask-requires : goal.answer_ask-requires
answer_ask-requires g c = (rw (ap question_said c.in-Ask.is) at c.requires.0).facing

pub answer_explain-requires : goal.answer_explain-requires
answer_explain-requires g c = (asked-explaining (rw (ap question_said c.in-Explain.is) at c.requires.0), c.requires.1)

pub answer_broken-requires : goal.answer_broken-requires
answer_broken-requires g c = let p = rw (ap question_said c.in-Broken.is) at c.requires.0 in (p.breaking, p.facing.fits, c.requires.1)

pub answer_why-requires : goal.answer_why-requires
answer_why-requires g c = (rw (ap question_said c.in-Why.is) at c.requires.0).facing

pub returns-in-Ask : goal.returns-in-Ask
returns-in-Ask g c = rw (ap question_said c.in-Ask.is) (ask-replied g.met.P.Profile.laws c.requires.0.breaking c.answer_ask.ensures)

pub returns-in-Explain : goal.returns-in-Explain
returns-in-Explain g c = rw (ap question_said c.in-Explain.is) (explained-replied c.answer_explain.ensures)

pub returns-in-Broken : goal.returns-in-Broken
returns-in-Broken g c = rw (ap question_said c.in-Broken.is) c.answer_broken.ensures

pub returns-in-Why : goal.returns-in-Why
returns-in-Why g c = rw (ap question_said c.in-Why.is) (why-replied g.met.P.Profile.laws c.requires.0.breaking c.answer_why.ensures)
