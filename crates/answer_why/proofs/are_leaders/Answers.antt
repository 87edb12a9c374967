-- `answer_why::are_leaders` meets its contract. The loop's invariant: the numbers passed stand there; one that does not stand at its place decides.
-- Assumes nothing.
use borrow.Author.Rules.{rules}
use native.Mathlib.Omega.{arith}
use Prim.Native.Nat.{ℕ}
use mathlib.Core.Path.{◌≡◌, refl, subst}
use Rattle.table.specs.Map.{gather}
use Rattle.leading.specs.Leading.{leader_in}
use Rattle.report.specs.Report.{numbers}
use Rattle.report_read.specs.Read.{Holds}
use Rattle.meaning.proofs.Tests.{is-not, true-or-false}
use Rattle.report_numbers.proofs.Listing.{list-held-none, list-held-more, list-held-at}
use Rattle.answer_why.proofs.are_leaders.Goals as goal

pub loop-i-init : goal.loop-i-init
loop-i-init c = let a = c.args in (omega arith, list-held-none a.report.now a.at (leader_in a.work.now))

pub is_leader-requires : goal.is_leader-requires
is_leader-requires c = (c.requires.0.long, omega (arith, c.requires.0.few, c.loop-i-test), c.requires.0.low c.loop-i.i c.loop-i-test.true, omega (arith, c.requires.1, c.loop-i-test))

pub loop-i-preserved : goal.loop-i-preserved
loop-i-preserved c =
    let a = c.args in
    let l = c.loop-i in
    (search rules, list-held-more a.report.now a.at (leader_in a.work.now) l.i l.invariant.1 (c.is_leader.ensures.0 c.if-not-is_leader.false))

pub returns-then-not-is_leader : goal.returns-then-not-is_leader
returns-then-not-is_leader c =
    let a = c.args in
    let l = c.loop-i in
    is-not (λ h. true-or-false (c.is_leader.ensures.1 (list-held-at a.report.now a.at (leader_in a.work.now) a.size l.i c.loop-i-test.true h)) c.if-not-is_leader.true)

pub returns : goal.returns
returns c =
    let a = c.args in
    let l = c.loop-i in
    let e : l.i ≡ a.size = omega (arith, l.invariant.0, c.loop-i-test.false) in
    (λ t. subst (λ (n : ℕ). Holds a.report.now a.at (numbers (gather (leader_in a.work.now) n))) e l.invariant.1, λ h. refl)
