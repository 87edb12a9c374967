-- `answer_why::doubted` meets its contract: the leaders that were found tell which field is the only right one.
-- Assumes nothing.
use native.Mathlib.Omega.{arith}
use mathlib.Core.Path.{sym, ◌∙◌}
use Rattle.meaning.proofs.Tests.{true-or-false}
use borrow.Author.Tests.{eqb-true, eqb-false}
use Rattle.table.specs.Map.{gather}
use Rattle.table.specs.Places.{scratch}
use Rattle.table.proofs.Frame.{within_wider}
use Rattle.moment.proofs.Kept.{past-forest}
use Rattle.leading.specs.Leading.{leader_in}
use Rattle.report.specs.Report.{numbers}
use Rattle.report_read.proofs.Read.{field_room}
use Rattle.answer_why.proofs.Doubting.{labelled-after, led-all, same-follows, other-apart, length-leaders, joined-right, joined-wrong, parted-right, parted-wrong}
use Rattle.answer_why.proofs.doubted.Goals as goal

pub lead-requires : goal.lead-requires
lead-requires c = let f = c.requires.0 in record { forest = past-forest f.past; few = f.past.loaded.few; units = f.units; low = omega (arith, f.past.low, f.past.loaded.few) }

pub leader_of-l-requires : goal.leader_of-l-requires
leader_of-l-requires c =
    let f = c.requires.0 in
    let d = c.lead.ensures in
    (omega (arith, d.frame.size, f.past.loaded.long), omega (arith, f.past.loaded.few, f.from), omega (arith, f.past.loaded.few, d.low c.args.q.s.0 f.from))

pub leader_of-m-requires : goal.leader_of-m-requires
leader_of-m-requires c =
    let f = c.requires.0 in
    let d = c.lead.ensures in
    (omega (arith, d.frame.size, f.past.loaded.long), omega (arith, f.past.loaded.few, f.to), omega (arith, f.past.loaded.few, d.low c.args.q.t.0 f.to))

pub is_bare-requires : goal.is_bare-requires
is_bare-requires c = c.requires.1

pub returns-then-is_bare : goal.returns-then-is_bare
returns-then-is_bare c =
    let f = c.requires.0 in
    let a = c.args in
    let d = c.lead.ensures in
    let g = same-follows d f.past f.early f.from f.to c.leader_of-l.ensures c.leader_of-m.ensures (eqb-true _ _ (sym c.eq.ensures ∙ c.if-eq.true)) in
    record { kept = within_wider scratch (omega arith) (omega arith) d.frame; right = joined-right a.report.now a.at g (c.is_bare.ensures.0 c.if-is_bare.true) }

pub returns-then-eq : goal.returns-then-eq
returns-then-eq c =
    let f = c.requires.0 in
    let a = c.args in
    let d = c.lead.ensures in
    let g = same-follows d f.past f.early f.from f.to c.leader_of-l.ensures c.leader_of-m.ensures (eqb-true _ _ (sym c.eq.ensures ∙ c.if-eq.true)) in
    record { kept = within_wider scratch (omega arith) (omega arith) d.frame; right = joined-wrong a.report.now a.at g (λ h. true-or-false (c.is_bare.ensures.1 h) c.if-is_bare.false) }

pub is_parted-requires : goal.is_parted-requires
is_parted-requires c =
    let f = c.requires.0 in
    (labelled-after (record { forest = past-forest f.past; few = f.past.loaded.few; units = f.units; low = omega (arith, f.past.low, f.past.loaded.few) }) c.lead.ensures, c.requires.1)

pub overflow_add-result-then-is_parted : goal.overflow_add-result-then-is_parted
overflow_add-result-then-is_parted c = omega (arith, length-leaders (leader_in c.lead.new.work) c.args.q.size 136, field_room c.args.report.now c.args.at 136 (numbers (gather (leader_in c.lead.new.work) c.args.q.size)) c.requires.1 (c.is_parted.ensures.0 c.if-is_parted.true))

pub returns-then-is_parted : goal.returns-then-is_parted
returns-then-is_parted c =
    let f = c.requires.0 in
    let a = c.args in
    let d = c.lead.ensures in
    let g = other-apart d f.past f.early f.from f.to c.leader_of-l.ensures c.leader_of-m.ensures (eqb-false _ _ (sym c.eq.ensures ∙ c.if-eq.false)) in
    record { kept = within_wider scratch (omega arith) (omega arith) d.frame; right = parted-right a.report.now a.at g (led-all d f.past f.early) (c.is_parted.ensures.0 c.if-is_parted.true) (omega (arith, length-leaders (leader_in c.lead.new.work) a.q.size 136)) }

pub returns-else-is_parted : goal.returns-else-is_parted
returns-else-is_parted c =
    let f = c.requires.0 in
    let a = c.args in
    let d = c.lead.ensures in
    let g = other-apart d f.past f.early f.from f.to c.leader_of-l.ensures c.leader_of-m.ensures (eqb-false _ _ (sym c.eq.ensures ∙ c.if-eq.false)) in
    record { kept = within_wider scratch (omega arith) (omega arith) d.frame; right = parted-wrong a.report.now a.at g (led-all d f.past f.early) (λ h. true-or-false (c.is_parted.ensures.1 h) c.if-is_parted.false) }
