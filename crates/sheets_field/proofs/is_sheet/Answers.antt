-- `sheets_field::is_sheet` meets its contract: the number that is read is the one that stands there, and it is compared with the table's.
-- Assumes nothing.
use Prim.Native.Nat.{ℕ, ◌+◌, ◌*◌}
use mathlib.Core.Path.{◌≡◌, ◌∙◌, sym}
use Rattle.table.specs.Map.{sheet_of}
use Rattle.meaning.proofs.Tests.{is-so}
use Rattle.report_read.proofs.Read.{number-held}
use Rattle.sheets_field.proofs.is_sheet.Goals as goal

pub returns : goal.returns
returns c =
    let n : ℕ = sheet_of c.args.work.now c.args.i in
    let e : _ ≡ n = c.sheet-due.ensures in
    is-so c.number_in.result _
    (λ q. rw (q ∙ e) at c.number_in.ensures)
    (λ h. number-held c.args.report.now (c.args.at + 2 * c.args.i) c.number_in.result n c.number_in.ensures h ∙ sym e)
