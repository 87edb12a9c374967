-- `answer_ask::answer_ask` meets its contract: the field is made of the two leaders that were found.
-- Assumes nothing.
use native.Mathlib.Omega.{arith}
use mathlib.Core.List.{[], ◌∷◌}
use Rattle.table.proofs.Frame.{within_wider}
use Rattle.table.specs.Places.{scratch}
use Rattle.moment.proofs.Kept.{past-forest}
use Rattle.report.specs.Report.{numbers, field, led}
use Rattle.report.proofs.Known.{ask-known}
use Rattle.report.proofs.Bytes.{length-field, length-numbers}
use Rattle.answer_ask.proofs.answer_ask.Goals as goal

pub leaders-requires : goal.leaders-requires
leaders-requires c =
    let f = c.requires in
    (record { forest = past-forest f.past; few = f.past.loaded.few; units = f.units; low = omega (arith, f.past.low, f.past.loaded.few) }, f.tags.0, f.tags.1.0)

pub write_led-requires : goal.write_led-requires
write_led-requires c = c.requires.fits

pub returns : goal.returns
returns c =
    let f = c.requires in
    let a = c.args in
    let p = c.leaders in
    let l = p.result.0.0 in
    let m = p.result.1.0 in
    let h = p.ensures.leads a.c.len f.past f.passed in
    record {
      field = field 131 (numbers (l ∷ m ∷ []));
      right = λ M b K. ask-known K (field 131 (numbers (l ∷ m ∷ []))) (led {s = a.s.0} {t = a.t.0} {l = l} {m = m} h.0 h.1);
      front = c.write_led.ensures;
      reached = omega (arith, length-field 131 (numbers (l ∷ m ∷ [])), length-numbers (l ∷ m ∷ []));
      kept = within_wider scratch (omega arith) (omega arith) p.ensures.frame;
    }
