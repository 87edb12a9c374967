-- `answer_all::answer_all` meets its contract: from item to item the front of the room goes on making a sound report of whatever is one of the
-- items left, until none is left. The place in the job comes nearer to its end.
-- Assumes nothing.
use native.Mathlib.Omega.{arith}
use mathlib.Core.Path.{sym, ◌∙◌}
use Rattle.job_field.specs.Answer.{said}
use Rattle.answer_all.proofs.Midway.{midway-begin, midway-ended, midway-meeting, midway-within, midway-on, midway-closer}
use Rattle.answer_all.proofs.answer_all.Goals as goal

pub loop-c-init : goal.loop-c-init
loop-c-init g c = midway-begin c.args.job.now _ _ _ _ _ _ c.behind.ensures c.requires.0 c.requires.2 c.requires.1

pub returns-then-is_end : goal.returns-then-is_end
returns-then-is_end g c = midway-ended g.met.P.Profile.laws c.args.job.now _ _ _ _ _ _ _ _ c.loop-c.invariant (said c.read-field.result) c.read-field.ensures (sym c.is_end.ensures ∙ c.if-is_end.true)

pub behind-requires-in-loop-c : goal.behind-requires-in-loop-c
behind-requires-in-loop-c g c = midway-within g.met.P.Profile.laws c.args.job.now _ _ _ _ _ _ _ _ c.loop-c.invariant

pub answer_field-p-requires : goal.answer_field-p-requires
answer_field-p-requires g c = (midway-meeting g.met.P.Profile.laws c.args.job.now _ _ _ _ _ _ _ _ c.loop-c.invariant (said c.read-field.result) c.read-field.ensures (sym c.is_end.ensures ∙ c.if-is_end.false), c.loop-c.invariant.asks)

pub loop-c-smaller : goal.loop-c-smaller
loop-c-smaller g c =
    let d = midway-closer g.met.P.Profile.laws c.args.job.now _ _ _ _ _ _ _ _ c.loop-c.invariant (said c.read-field.result) _ _ _ _ c.read-field.ensures c.behind-in-loop-c.ensures c.answer_field-p.ensures in
    omega (arith, d.0, d.1)

pub loop-c-preserved : goal.loop-c-preserved
loop-c-preserved g c = midway-on g.met.P.Profile.laws c.args.job.now _ _ _ _ _ _ _ _ c.loop-c.invariant (said c.read-field.result) _ _ _ _ c.read-field.ensures c.behind-in-loop-c.ensures c.answer_field-p.ensures
