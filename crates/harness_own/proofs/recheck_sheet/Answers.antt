-- `harness_own::recheck_sheet` meets its contract: what the record table's part leaves is what the rest of a recheck begins with, and both together make the recheck's promise.
-- Assumes nothing.
use mathlib.Core.Path.{◌∙◌}
use Rattle.call_intake.proofs.Columns.{received-begun}
use Rattle.harness.proofs.Rechecked.{weighed-rechecked}
use Rattle.harness_own.proofs.recheck_sheet.Goals as goal

pub weigh-requires : goal.weigh-requires
weigh-requires c = received-begun c.receive_over-looked.ensures.received

pub returns : goal.returns
returns c =
    let o = c.receive_over-looked.ensures in
    record {
      records = o.records;
      rechecked = weighed-rechecked c.args.job.now c.args.report.now _ c.args.work.now _ _ _ o.received _ _ _ c.weigh.ensures;
      work_kept = c.weigh.auto.work ∙ c.receive_over-looked.auto.work;
    }
