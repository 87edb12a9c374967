-- `report_numbers::write_list` meets its contract: a turn lays the next number of the list behind those that are laid.
-- Assumes nothing.
use native.Mathlib.Omega.{arith}
use mathlib.Core.Path.{refl, sym, ◌∙◌}
use Rattle.table.specs.Map.{list_of}
use Rattle.report.specs.Report.{numbers}
use Rattle.report.proofs.Laid.{laid_none}
use Rattle.report_numbers.proofs.Written.{list-laid}
use Rattle.report_numbers.proofs.write_list.Goals as goal

pub loop-i-init : goal.loop-i-init
unfolding numbers
loop-i-init c = (refl, sym (laid_none c.args.at c.args.room.now))

pub put_listed-requires : goal.put_listed-requires
put_listed-requires c = (omega (arith, c.requires), omega (arith, c.requires), omega (arith, c.requires, c.loop-i.invariant.0))

pub loop-i-preserved : goal.loop-i-preserved
loop-i-preserved c =
    let l = c.loop-i in
    (c.put_listed.auto.room ∙ l.invariant.0, list-laid (list_of c.args.work.now) c.args.at l.i c.args.room.now l.room c.put_listed.new.room (omega (arith, c.requires)) l.invariant.1 c.put_listed.ensures)
