-- `judge::tested` meets its contract, question by question.
-- Assumes nothing.
use mathlib.Core.Path.{refl, ap}
use Rattle.job_field.specs.Answer.{question_said}
use Rattle.report.proofs.Known.{ask-known, ask-tabled, why-known, why-tabled}
use Rattle.judge_sheets.proofs.Passing.{lone-passed}
use Rattle.answer_ask.proofs.Right.{right-same}
use Rattle.judge.proofs.Going.{known-here, explaining-here}
use Rattle.judge.proofs.tested.Goals as goal

pub led-requires : goal.led-requires
led-requires g c = let t = rw (ap question_said c.in-Ask.is) at c.requires.0 in (rw c.asked.ensures (record { past = t.breaking.past; units = rw t.breaking.head at t.breaking.stands.units; early = t.breaking.passed; from = t.tags.0; to = t.tags.1.0 }), t.within)

pub explained-requires : goal.explained-requires
explained-requires g c =
    let t = rw (ap question_said c.in-Explain.is) at c.requires.0 in
    record {
      asked = (rw c.asked-in-Explain.ensures (explaining-here t.breaking (record { past = t.breaking.past; units = rw t.breaking.head at t.breaking.stands.units; early = t.breaking.passed; from = t.tags.0; to = t.tags.1.0 }) refl refl), t.within);
      asks = c.requires.1;
    }

pub checked-requires : goal.checked-requires
checked-requires g c = record { asked = (c.requires.0.breaking, c.requires.0.within); asks = c.requires.1 }

pub doubted-requires : goal.doubted-requires
doubted-requires g c = let t = rw (ap question_said c.in-Why.is) at c.requires.0 in (rw c.asked-in-Why.ensures (record { past = t.breaking.past; units = rw t.breaking.head at t.breaking.stands.units; early = t.breaking.passed; from = t.tags.0; to = t.tags.1.0 }), t.within)

pub returns-in-Ask : goal.returns-in-Ask
returns-in-Ask g c =
    let l = g.met.P.Profile.laws in
    rw (ap question_said c.in-Ask.is)
    (record {
      kept = c.led.ensures.kept;
      right = λ b e d.
          let K = known-here c.requires.0.breaking b e in
          lone-passed (λ L f r. l.no-ask r) (right-same (λ f a. (l.asked f).1 (ask-known K f a)) (λ f a. ask-tabled K f ((l.asked f).0 a)) (rw c.asked.ensures at c.led.ensures.right));
    })

pub returns-in-Explain : goal.returns-in-Explain
returns-in-Explain g c =
    rw (ap question_said c.in-Explain.is)
    (record { kept = c.explained.ensures.kept; right = λ b e d. (rw c.asked-in-Explain.ensures at c.explained.ensures.right) b e })

pub returns-in-Broken : goal.returns-in-Broken
returns-in-Broken g c = rw (ap question_said c.in-Broken.is) (record { kept = c.checked.ensures.kept; right = c.checked.ensures.right })

pub returns-in-Why : goal.returns-in-Why
returns-in-Why g c =
    let l = g.met.P.Profile.laws in
    rw (ap question_said c.in-Why.is)
    (record {
      kept = c.doubted.ensures.kept;
      right = λ b e d.
          let K = known-here c.requires.0.breaking b e in
          lone-passed (λ L f r. l.no-why r) (right-same (λ f a. (l.doubted f).1 (why-known K f a)) (λ f a. why-tabled K f ((l.doubted f).0 a)) (rw c.asked-in-Why.ensures at c.doubted.ensures.right));
    })
