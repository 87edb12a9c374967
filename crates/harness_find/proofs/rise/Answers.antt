-- `harness_find::rise` meets its contract: each turn tries one record more.
-- Assumes nothing.
use native.Mathlib.Omega.{arith}
use Rattle.harness_find.proofs.Scanning.{sweep-start, sweep-trying, sweep-on, sweep-end}
use Rattle.harness_find.proofs.rise.Goals as goal

pub loop-k-init : goal.loop-k-init
loop-k-init c = sweep-start c.requires.room

pub try_record-requires : goal.try_record-requires
try_record-requires c = sweep-trying c.requires c.loop-k.invariant c.loop-k-test.true

pub loop-k-preserved : goal.loop-k-preserved
loop-k-preserved c = sweep-on c.loop-k.invariant c.loop-k-test.true c.try_record.ensures

pub returns : goal.returns
returns c = sweep-end c.loop-k.invariant (omega (arith, c.loop-k-test.false))
