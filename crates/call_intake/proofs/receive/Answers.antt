-- `receive` meets its contract: where a job is accepted `take_in` and `clear` have the record table, and on a refusal `clear` alone or nothing.
-- Assumes nothing.
use Rattle.std.proofs.Common.{arith, refl}
use Rattle.call_intake.proofs.Columns.{handable, received}
use Rattle.call_intake.proofs.receive.Goals as goal

pub take_in-requires : goal.take_in-requires
take_in-requires c = handable c.args.job.now c.args.records.now c.args.work.now _ c.in-Ok.ensures refl

pub returns-in-Ok : goal.returns-in-Ok
returns-in-Ok c = received c.args.job.now c.args.records.now c.args.work.now _ c.in-Ok.ensures refl c.take_in.new.records c.take_in.new.work c.take_in.ensures c.clear.new.records c.clear.ensures
