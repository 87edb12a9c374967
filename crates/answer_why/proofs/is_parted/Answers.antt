-- `answer_why::is_parted` meets its contract: the field is its kind, two bytes for each tag and the leaders, and each is compared.
-- Assumes nothing.
use Prim.Native.Nat.{ℕ, ◌+◌, ◌*◌}
use native.Mathlib.Omega.{arith}
use mathlib.Core.Path.{subst}
use lib.ListN.{length}
use Rattle.meaning.proofs.Tests.{is-not}
use Rattle.table.specs.Map.{gather}
use Rattle.leading.specs.Leading.{leader_in}
use Rattle.report.specs.Report.{two, numbers, field}
use Rattle.report_read.specs.Read.{Holds}
use Rattle.report_read.proofs.Read.{holds-field, number-held, front-kind, front-size, field-body, field_room}
use Rattle.report_numbers.proofs.Written.{length-list}
use Rattle.answer_why.proofs.is_parted.Goals as goal

pub overflow_mul-all : goal.overflow_mul-all
overflow_mul-all c = omega (arith, c.requires.0.few)

pub overflow_add-all : goal.overflow_add-all
overflow_add-all c = omega (arith, c.requires.0.few)

pub returns-then-report-at : goal.returns-then-report-at
returns-then-report-at c =
    let a = c.args in
    let f = leader_in a.work.now in
    is-not (λ h. omega (arith, field_room a.report.now a.at 136 (numbers (gather f a.size)) c.requires.1 h, length-list f a.size, c.requires.1, c.if-report-at.true))

pub bounds-report-at : goal.bounds-report-at
bounds-report-at c = omega (arith, c.requires.1, c.if-report-at.false)

pub returns-then-report-at-2 : goal.returns-then-report-at-2
returns-then-report-at-2 c =
    let a = c.args in
    is-not (λ h. c.if-report-at-2.true (front-kind a.report.now a.at 136 (numbers (gather (leader_in a.work.now) a.size)) (omega (arith, c.requires.1, c.if-report-at.false)) h))

pub number_in-requires : goal.number_in-requires
number_in-requires c = omega (arith, c.requires.1, c.if-report-at.false)

pub overflow_cast-all : goal.overflow_cast-all
overflow_cast-all c = omega (arith, c.requires.0.few)

pub returns-then-number_in-all : goal.returns-then-number_in-all
returns-then-number_in-all c =
    let a = c.args in
    let f = leader_in a.work.now in
    is-not (λ h. c.if-number_in-all.true (number-held a.report.now (a.at + 1) c.number_in.result (2 * a.size) c.number_in.ensures (rw (length-list f a.size) at (front-size a.report.now a.at 136 (numbers (gather f a.size)) h))))

pub are_leaders-requires : goal.are_leaders-requires
are_leaders-requires c = (c.requires.0, omega (arith, c.requires.1, c.if-report-at.false))

pub returns : goal.returns
returns c =
    let a = c.args in
    let r = a.report.now in
    let f = leader_in a.work.now in
    let B = numbers (gather f a.size) in
    let size : Holds r (a.at + 1) (two (length B)) = rw (length-list f a.size, ← c.if-number_in-all.false) c.number_in.ensures in (
      λ t. subst (λ (k : ℕ). Holds r a.at (field k B)) c.if-report-at-2.false (holds-field r a.at B (omega (arith, c.requires.1, c.if-report-at.false)) size (c.are_leaders.ensures.0 t)),
      λ h. c.are_leaders.ensures.1 (field-body r a.at 136 B h),
    )
