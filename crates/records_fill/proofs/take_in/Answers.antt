-- What `fill` leaves is what `load` asks for, and what `load` leaves is the job's records in the columns.
-- Assumes nothing.
use Rattle.records_fill.proofs.Handed.{handable-fills, handable-loads, taken_in}
use Rattle.records_fill.proofs.take_in.Goals as goal

pub fill-requires : goal.fill-requires
fill-requires c = handable-fills c.args.job.now c.args.records.now c.args.work.now c.args.n c.requires

pub load-requires : goal.load-requires
load-requires c = handable-loads c.args.job.now c.args.records.now c.args.work.now c.args.n c.requires c.fill.new.records c.fill.ensures

pub returns : goal.returns
returns c = taken_in c.args.job.now c.args.records.now c.args.work.now c.args.n c.requires c.fill.new.records c.load.new.work c.fill.ensures c.load.ensures
