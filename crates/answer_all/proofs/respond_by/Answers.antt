-- `answer_all::respond_by` meets its contract: what is closed holds the past of the job's records, the questions are answered by it, and the
-- totals are those of the closure.
-- Assumes nothing.
use native.Mathlib.Omega.{arith}
use mathlib.Core.Path.{◌∙◌}
use Rattle.answer_all.proofs.Whole.{asking-after, idle-few, told-room, responded}
use Rattle.answer_all.proofs.respond_by.Goals as goal

pub close-t-requires : goal.close-t-requires
close-t-requires g c = c.requires.0.loaded

pub answer_all-end-requires : goal.answer_all-end-requires
answer_all-end-requires g c = (asking-after c.requires.0 c.close-t.ensures _ _ (c.from-unit.ensures ∙ c.units.ensures) c.sheeted-edition.ensures, c.requires.0.fits, c.requires.1)

pub overflow_sub-size : goal.overflow_sub-size
overflow_sub-size g c = omega (arith, c.close-t.ensures.past.low)

pub write_totals-requires : goal.write_totals-requires
write_totals-requires g c =
    let f = c.requires.0 in
    let k = c.close-t.ensures in
    (told-room f k g.met.P.Profile.laws c.answer_all-end.ensures, omega (arith, k.past.loaded.few), omega (arith, idle-few f k))

pub returns : goal.returns
returns g c = responded c.requires.0 c.close-t.ensures g.met.P.Profile.laws c.answer_all-end.ensures _ c.write_totals.ensures
