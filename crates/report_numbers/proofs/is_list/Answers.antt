-- `report_numbers::is_list` meets its contract. The loop's invariant: the numbers passed stand there; one that does not stand at its place decides.
-- Assumes nothing.
use Rattle.table.specs.Map.{list_of}
use Rattle.meaning.proofs.Tests.{is-not, true-or-false}
use Rattle.report_numbers.proofs.Listing.{list-held-none, list-held-more, list-held-at}
use Rattle.report_numbers.proofs.is_list.Goals as goal

pub loop-i-init : goal.loop-i-init
loop-i-init c = let a = c.args in list-held-none a.report.now a.at (list_of a.work.now)

pub loop-i-preserved : goal.loop-i-preserved
loop-i-preserved c =
    let a = c.args in
    let l = c.loop-i in
    list-held-more a.report.now a.at (list_of a.work.now) l.i l.invariant (c.is_listed.ensures.0 c.if-not-is_listed.false)

pub returns-then-not-is_listed : goal.returns-then-not-is_listed
returns-then-not-is_listed c =
    let a = c.args in
    let l = c.loop-i in
    is-not (λ h. true-or-false (c.is_listed.ensures.1 (list-held-at a.report.now a.at (list_of a.work.now) a.count l.i c.loop-i-test.true h)) c.if-not-is_listed.true)
