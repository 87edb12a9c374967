-- Assumes nothing.
use Rattle.std.proofs.Common.{◌≡◌, suc, add-one, arith, set}
use Rattle.records_fill.proofs.Filling.{Going, going-begin, going_on, going_done}
use Rattle.records_fill.proofs.fill.Goals as goal

pub loop-i-init : goal.loop-i-init
loop-i-init c = going-begin _ _ _

pub loop-i-preserved : goal.loop-i-preserved
loop-i-preserved c =
    let g : Going c.args.job.now c.args.n c.args.records.now (suc c.loop-i.i) (set c.loop-i.records c.loop-i.i c.next_record-found.result.place) c.next_record-found.result.next
    = going_on c.args.job.now c.args.n c.args.records.now c.loop-i.i c.loop-i.records c.loop-i.at c.next_record-found.result c.loop-i-test.true c.requires c.loop-i.invariant c.next_record-found.ensures in
    rw (add-one, c.store.ensures) g

pub returns : goal.returns
returns c =
    let e : c.loop-i.i ≡ c.args.n = omega arith in
    going_done c.args.job.now c.args.n c.args.records.now c.loop-i.records c.loop-i.at (rw e at c.loop-i.invariant)
