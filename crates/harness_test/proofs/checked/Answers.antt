-- `harness_test::checked` meets its contract: the scan finds the earliest broken pair, whose field is looked for, or that none is broken.
-- Assumes nothing.
use native.Mathlib.Omega.{arith}
use Rattle.pairs.proofs.Breaking.{breaking-few, breaking-some, breaking-none, breaking-sought}
use Rattle.harness_reason.proofs.Plain.{plain_here}
use Rattle.harness_test.proofs.Stands.{checked-none, broke-there, checked-some}
use Rattle.harness_test.proofs.checked.Goals as goal

pub first_broken-number-requires : goal.first_broken-number-requires
first_broken-number-requires c = (c.requires.0.past.loaded.long, breaking-few c.requires.0)

pub bare-requires : goal.bare-requires
bare-requires c = c.requires.1

pub returns-then-number-eq0 : goal.returns-then-number-eq0
returns-then-number-eq0 c = checked-none c.requires.0 (breaking-none c.requires.0 c.first_broken-number.ensures c.if-number-eq0.true) c.bare.ensures

pub pair_at-pair-requires : goal.pair_at-pair-requires
pair_at-pair-requires c = breaking-sought c.requires.0 (breaking-some c.requires.0 c.first_broken-number.ensures (omega (arith, c.if-number-eq0.false)))

pub breach-requires : goal.breach-requires
breach-requires c = (broke-there c.requires.0 (breaking-some c.requires.0 c.first_broken-number.ensures (omega (arith, c.if-number-eq0.false))) c.pair_at-pair.ensures, plain_here c.requires.0 c.requires.2, c.requires.1)

pub returns : goal.returns
returns c = checked-some c.requires.0 (breaking-some c.requires.0 c.first_broken-number.ensures (omega (arith, c.if-number-eq0.false))) c.pair_at-pair.ensures c.breach.ensures
