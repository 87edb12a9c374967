-- `sheets_field::write_numbers` meets its contract: a turn lays the next of the sheets behind those that are laid.
-- Assumes nothing.
use native.Mathlib.Omega.{arith}
use Prim.Native.Nat.{ℕ}
use mathlib.Core.Path.{◌≡◌, refl, sym, ap, ◌∙◌}
use Rattle.table.specs.Map.{sheet_of, sheets_in}
use Rattle.report.specs.Report.{numbers, laid}
use Rattle.report.proofs.Laid.{laid_none}
use Rattle.report_numbers.proofs.Written.{list-laid}
use Rattle.sheets_field.proofs.write_numbers.Goals as goal

pub loop-i-init : goal.loop-i-init
unfolding numbers
loop-i-init c = (refl, sym (laid_none c.args.at c.args.room.now))

pub put_sheet-requires : goal.put_sheet-requires
put_sheet-requires c = (omega (arith, c.requires), omega (arith, c.requires), omega (arith, c.requires, c.loop-i.invariant.0))

pub loop-i-preserved : goal.loop-i-preserved
loop-i-preserved c =
    let l = c.loop-i in
    (c.put_sheet.auto.room ∙ l.invariant.0, list-laid (sheet_of c.args.work.now) c.args.at l.i c.args.room.now l.room c.put_sheet.new.room (omega (arith, c.requires)) l.invariant.1 c.put_sheet.ensures)
