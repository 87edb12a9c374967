-- `recheck` meets its contract: what was received is what the rest of a recheck begins with, and both together make the recheck's promise.
-- Assumes nothing.
use Rattle.call_intake.proofs.Columns.{received-begun}
use Rattle.harness.proofs.Rechecked.{weighed-rechecked}
use Rattle.harness.proofs.recheck.Goals as goal

pub weigh-requires : goal.weigh-requires
weigh-requires c = received-begun c.receive-looked.ensures

pub returns : goal.returns
returns c = weighed-rechecked c.args.job.now c.args.report.now c.args.records.now c.args.work.now _ c.receive-looked.new.records c.receive-looked.new.work c.receive-looked.ensures _ _ _ c.weigh.ensures
