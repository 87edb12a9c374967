-- `report_write::write_bare` meets its contract: the front that says no bytes is the whole field.
-- Assumes nothing.
use Rattle.report.specs.Report.{two, field, front}
use Rattle.report_write.proofs.write_bare.Goals as goal

pub returns : goal.returns
unfolding field front two
returns c = c.put_front.ensures
