-- `recheck_over` meets its contract: what the record table's part leaves is what the rest of a recheck begins with, and both together make the recheck's
-- promise.
-- Assumes nothing.
use mathlib.Core.Path.{◌∙◌}
use Rattle.call_intake.proofs.Columns.{received-begun}
use Rattle.haltzurme.proofs.Rechecked.{weighed-rechecked}
use Rattle.haltzurme_own.proofs.recheck_over.Goals as goal

pub weigh-requires : goal.weigh-requires
weigh-requires c = received-begun c.receive_over-looked.ensures.received

pub returns : goal.returns
returns c =
    let o = c.receive_over-looked in
    let f = c.weigh in
    record {
      records = o.ensures.records;
      rechecked = weighed-rechecked c.args.job.now c.args.report.now _ c.args.work.now _ _ _ o.ensures.received _ _ _ f.ensures;
      work_kept = f.auto.work ∙ o.auto.work;
    }
