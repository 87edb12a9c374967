-- `report_read::is_tag` meets its contract: the number that is read is the one that stands there, and it is compared with the tag's.
-- Assumes nothing.
use mathlib.Core.Path.{◌∙◌, sym}
use Rattle.meaning.proofs.Tests.{is-so}
use Rattle.report_read.proofs.Read.{number-held}
use Rattle.report_read.proofs.is_tag.Goals as goal

pub returns : goal.returns
returns c =
    let a = c.args in
    let e = c.number.ensures in
    is-so c.number_in.result _
    (λ q. rw (q ∙ e) at c.number_in.ensures)
    (λ h. number-held a.report.now a.at c.number_in.result a.l.0 c.number_in.ensures h ∙ sym e)
