-- `answer_why::answer_why` meets its contract: the leaders that were found tell whether the equality follows, and where it does not they are the answer.
-- Assumes nothing.
use native.Mathlib.Omega.{arith}
use mathlib.Core.Path.{sym, ◌∙◌}
use mathlib.Core.List.{[]}
use borrow.Author.Tests.{eqb-true, eqb-false}
use Rattle.table.specs.Map.{gather}
use Rattle.table.specs.Places.{scratch}
use Rattle.table.proofs.Frame.{within_wider}
use Rattle.moment.proofs.Kept.{past-forest}
use Rattle.leading.specs.Leading.{leader_in}
use Rattle.report.specs.Report.{numbers, field, parted, joined}
use Rattle.report.proofs.Known.{why-known}
use Rattle.report.proofs.Bytes.{length-field}
use Rattle.answer_why.proofs.Doubting.{labelled-after, led-all, same-follows, other-apart, length-leaders}
use Rattle.answer_why.proofs.answer_why.Goals as goal

pub lead-requires : goal.lead-requires
lead-requires c = let f = c.requires in record { forest = past-forest f.past; few = f.past.loaded.few; units = f.units; low = omega (arith, f.past.low, f.past.loaded.few) }

pub leader_of-l-requires : goal.leader_of-l-requires
leader_of-l-requires c =
    let f = c.requires in
    let d = c.lead.ensures in
    (omega (arith, d.frame.size, f.past.loaded.long), omega (arith, f.past.loaded.few, f.tags.0), omega (arith, f.past.loaded.few, d.low c.args.s.0 f.tags.0))

pub leader_of-m-requires : goal.leader_of-m-requires
leader_of-m-requires c =
    let f = c.requires in
    let d = c.lead.ensures in
    (omega (arith, d.frame.size, f.past.loaded.long), omega (arith, f.past.loaded.few, f.tags.1.0), omega (arith, f.past.loaded.few, d.low c.args.t.0 f.tags.1.0))

pub write_bare-requires : goal.write_bare-requires
write_bare-requires c = omega (arith, c.requires.fits)

pub returns-then-eq : goal.returns-then-eq
returns-then-eq c =
    let f = c.requires in
    let a = c.args in
    let d = c.lead.ensures in
    record {
      field = field 137 [];
      right = λ M b K. why-known K (field 137 []) (joined {s = a.s.0} {t = a.t.0} (same-follows d f.past f.passed f.tags.0 f.tags.1.0 c.leader_of-l.ensures c.leader_of-m.ensures (eqb-true _ _ (sym c.eq.ensures ∙ c.if-eq.true))));
      front = c.write_bare.ensures;
      reached = omega (arith, length-field 137 []);
      kept = within_wider scratch (omega arith) (omega arith) d.frame;
    }

pub write_leaders-requires : goal.write_leaders-requires
write_leaders-requires c =
    let f = c.requires in
    (labelled-after (record { forest = past-forest f.past; few = f.past.loaded.few; units = f.units; low = omega (arith, f.past.low, f.past.loaded.few) }) c.lead.ensures, omega (arith, f.fits))

pub overflow_mul-result : goal.overflow_mul-result
overflow_mul-result c = omega (arith, c.requires.past.loaded.few)

pub returns : goal.returns
returns c =
    let f = c.requires in
    let a = c.args in
    let d = c.lead.ensures in
    let L = gather (leader_in c.lead.new.work) a.c.size in
    record {
      field = field 136 (numbers L);
      right = λ M b K. why-known K (field 136 (numbers L)) (parted {s = a.s.0} {t = a.t.0} {L = L} (other-apart d f.past f.passed f.tags.0 f.tags.1.0 c.leader_of-l.ensures c.leader_of-m.ensures (eqb-false _ _ (sym c.eq.ensures ∙ c.if-eq.false))) (led-all d f.past f.passed));
      front = c.write_leaders.ensures;
      reached = omega (arith, length-leaders (leader_in c.lead.new.work) a.c.size 136);
      kept = within_wider scratch (omega arith) (omega arith) d.frame;
    }
