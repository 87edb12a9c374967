-- `judge_broken::checked` meets its contract: the scan finds the earliest broken pair, whose field is looked for, or that none is broken.
-- Assumes nothing.
use native.Mathlib.Omega.{arith}
use Rattle.pairs.proofs.Breaking.{breaking-few, breaking-some, breaking-none, breaking-sought}
use mathlib.Core.Path.{ap}
use Rattle.job_field.specs.Items.{Head}
use Rattle.judge_broken.proofs.Right.{checked-none, breach-known, behind-there, checked-some}
use Rattle.judge_broken.proofs.checked.Goals as goal

pub first_broken-number-requires : goal.first_broken-number-requires
first_broken-number-requires c = (c.requires.0.past.loaded.long, breaking-few c.requires.0)

pub intact-requires : goal.intact-requires
intact-requires c = c.requires.1

pub returns-then-number-eq0 : goal.returns-then-number-eq0
returns-then-number-eq0 c = checked-none c.requires.0 (breaking-none c.requires.0 c.first_broken-number.ensures c.if-number-eq0.true) c.intact.ensures

pub pair_at-pair-requires : goal.pair_at-pair-requires
pair_at-pair-requires c = breaking-sought c.requires.0 (breaking-some c.requires.0 c.first_broken-number.ensures (omega (arith, c.if-number-eq0.false)))

pub overflow_sub-number : goal.overflow_sub-number
overflow_sub-number c = omega (arith, c.if-number-eq0.false)

pub since-first-requires : goal.since-first-requires
since-first-requires c = let e = (breaking-some c.requires.0 c.first_broken-number.ensures (omega (arith, c.if-number-eq0.false))) in (c.requires.0.past.loaded.long, omega (arith, e.number, e.before, breaking-few c.requires.0))

pub breach-found-requires : goal.breach-found-requires
breach-found-requires c = (breach-known c.requires.0 c.first_broken-number.ensures (breaking-some c.requires.0 c.first_broken-number.ensures (omega (arith, c.if-number-eq0.false))) c.pair_at-pair.ensures c.asked.ensures c.since-first.ensures, c.requires.1)

pub sheets_behind-requires : goal.sheets_behind-requires
sheets_behind-requires c = (ap (λ (h : Head). h.sheeted) c.requires.0.head, behind-there c.requires.0 c.first_broken-number.ensures (breaking-some c.requires.0 c.first_broken-number.ensures (omega (arith, c.if-number-eq0.false))) c.pair_at-pair.ensures c.asked.ensures c.requires.1 c.breach-found.ensures)

pub returns : goal.returns
returns c = checked-some c.requires.0 c.first_broken-number.ensures (breaking-some c.requires.0 c.first_broken-number.ensures (omega (arith, c.if-number-eq0.false))) c.pair_at-pair.ensures c.asked.ensures c.breach-found.ensures c.sheets_behind.ensures
