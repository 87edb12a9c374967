-- `report_numbers::read_reason` meets its contract: a turn brings the next number of the report to the next place of the list.
-- Assumes nothing.
use native.Mathlib.Omega.{arith}
use mathlib.Core.Path.{◌≡◌}
use lib.ListN.{length}
use Rattle.report_numbers.proofs.Listing.{list-read-none, list-read-more}
use Rattle.report_numbers.proofs.read_reason.Goals as goal

pub loop-i-init : goal.loop-i-init
loop-i-init c = let a = c.args in list-read-none a.report.now a.at a.work.now

pub read_listed-requires : goal.read_listed-requires
read_listed-requires c = let f : length c.loop-i.work ≡ length c.args.work.now = c.loop-i.invariant.kept.size in (omega (arith, c.requires), omega (arith, c.requires), omega (arith, c.requires))

pub loop-i-preserved : goal.loop-i-preserved
loop-i-preserved c =
    let a = c.args in
    let l = c.loop-i in
    let f : length l.work ≡ length a.work.now = l.invariant.kept.size in
    list-read-more a.report.now a.at l.i a.work.now l.work c.read_listed.new.work (omega (arith, c.requires)) (omega (arith, c.requires)) l.invariant c.read_listed.ensures
