-- The harness profile looks at an explain as harness_test does: the records are equations where they stand in the table.
-- Assumes nothing.
use Rattle.job_field.specs.Reading.{items_in}
use Rattle.harness_reason.proofs.Plain.{plain_in}
use Rattle.harness_profile.proofs.HarnessRecheck.explained.Goals as goal

pub explained-requires : goal.explained-requires
explained-requires c = (c.requires.asked.0, plain_in c.args.q.len c.args.work.now (items_in c.args.job.now) c.requires.asked.0.records c.requires.asks, c.requires.asked.1)
