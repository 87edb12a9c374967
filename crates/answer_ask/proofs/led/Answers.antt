-- `answer_ask::led` meets its contract: the field with the two leaders that were found is the only right one.
-- Assumes nothing.
use native.Mathlib.Omega.{arith}
use Rattle.meaning.proofs.Tests.{true-or-false}
use Rattle.table.proofs.Frame.{within_wider}
use Rattle.table.specs.Places.{scratch}
use Rattle.moment.proofs.Kept.{past-forest}
use Rattle.answer_ask.proofs.Right.{led-right, led-wrong}
use Rattle.answer_ask.proofs.led.Goals as goal

pub leaders-requires : goal.leaders-requires
leaders-requires c =
    let f = c.requires.0 in
    (record { forest = past-forest f.past; few = f.past.loaded.few; units = f.units; low = omega (arith, f.past.low, f.past.loaded.few) }, f.from, f.to)

pub is_led-requires : goal.is_led-requires
is_led-requires c = c.requires.1

pub returns-then-is_led : goal.returns-then-is_led
returns-then-is_led c =
    let f = c.requires.0 in
    let h = c.leaders.ensures.leads c.args.q.len f.past f.early in
    record {
      kept = within_wider scratch (omega arith) (omega arith) c.leaders.ensures.frame;
      right = led-right h.0 h.1 c.args.report.now c.args.at (c.is_led.ensures.0 c.if-is_led.true);
    }

pub returns-else-is_led : goal.returns-else-is_led
returns-else-is_led c =
    let f = c.requires.0 in
    let h = c.leaders.ensures.leads c.args.q.len f.past f.early in
    record {
      kept = within_wider scratch (omega arith) (omega arith) c.leaders.ensures.frame;
      right = led-wrong h.0 h.1 c.args.report.now c.args.at (λ g. true-or-false (c.is_led.ensures.1 g) c.if-is_led.false);
    }
