-- `answer_broken::answer_broken` meets its contract: the scan finds the earliest broken pair, whose tags the job has, or that none is broken.
-- Assumes nothing.
use native.Mathlib.Omega.{arith}
use Rattle.pairs.proofs.Breaking.{breaking-few, breaking-some, breaking-none, breaking-sought}
use Rattle.answer_broken.proofs.Breach.{broke-there, breach-replied, intact-replied}
use Rattle.answer_broken.proofs.answer_broken.Goals as goal

pub first_broken-number-requires : goal.first_broken-number-requires
first_broken-number-requires g c = (c.requires.0.past.loaded.long, breaking-few c.requires.0)

pub write_bare-requires : goal.write_bare-requires
write_bare-requires g c = omega (arith, c.requires.1)

pub returns-then-number-eq0 : goal.returns-then-number-eq0
returns-then-number-eq0 g c = intact-replied g.met.P.Profile.laws c.requires.0 (breaking-none c.requires.0 c.first_broken-number.ensures c.if-number-eq0.true) c.write_bare.ensures

pub pair_at-pair-requires : goal.pair_at-pair-requires
pair_at-pair-requires g c = breaking-sought c.requires.0 (breaking-some c.requires.0 c.first_broken-number.ensures (omega (arith, c.if-number-eq0.false)))

pub answer_breach-requires : goal.answer_breach-requires
answer_breach-requires g c = (broke-there c.requires.0 (breaking-some c.requires.0 c.first_broken-number.ensures (omega (arith, c.if-number-eq0.false))) c.pair_at-pair.ensures c.requires.1, c.requires.2)

pub returns : goal.returns
returns g c = breach-replied g.met.P.Profile.laws c.requires.0 (breaking-some c.requires.0 c.first_broken-number.ensures (omega (arith, c.if-number-eq0.false))) c.pair_at-pair.ensures c.answer_breach.ensures
