-- `report_numbers::is_listed` meets its contract: the number that is read is the one that stands there, and it is compared with the list's.
-- Assumes nothing.
use Prim.Native.Nat.{ℕ, ◌+◌, ◌*◌}
use mathlib.Core.Path.{◌≡◌, ◌∙◌, sym}
use Rattle.table.specs.Map.{list_of}
use Rattle.meaning.proofs.Tests.{is-so}
use Rattle.report_read.proofs.Read.{number-held}
use Rattle.report_numbers.proofs.is_listed.Goals as goal

pub returns : goal.returns
returns c =
    let a = c.args in
    let r = a.report.now in
    let n : ℕ = list_of a.work.now a.i in
    let e : _ ≡ n = c.number.ensures ∙ c.listed-r.ensures in
    is-so c.number_in.result _
    (λ q. rw (q ∙ e) at c.number_in.ensures)
    (λ h. number-held r (a.at + 2 * a.i) c.number_in.result n c.number_in.ensures h ∙ sym e)
