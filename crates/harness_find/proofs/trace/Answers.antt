-- `harness_find::trace` meets its contract: each turn lists one record more of the way back.
-- Assumes nothing.
use mathlib.Core.Path.{ap}
use Prim.Native.Nat.{◌+◌}
use native.Mathlib.Omega.{arith}
use lib.ListN.{length, length-set}
use Rattle.table.specs.Places.{LIST}
use Rattle.harness_find.proofs.Tracing.{trace-start, trace-long, trace-tag, trace-record, trace-on, trace-end}
use Rattle.harness_find.proofs.trace.Goals as goal

pub loop-i-init : goal.loop-i-init
loop-i-init c = trace-start c.requires

pub last_record-k-requires : goal.last_record-k-requires
last_record-k-requires c = (trace-long c.requires c.loop-i.invariant, trace-tag c.requires c.loop-i.invariant)

pub put_listed-requires : goal.put_listed-requires
put_listed-requires c = (trace-long c.requires c.loop-i.invariant, omega (arith, c.loop-i-test.true, c.requires.found.deep))

pub far-v-requires : goal.far-v-requires
far-v-requires c = (omega (arith, trace-long c.requires c.loop-i.invariant, ap length c.put_listed.ensures, length-set c.loop-i.work (LIST.at + c.loop-i.i) c.last_record-k.result.0), trace-record c.requires c.loop-i.invariant c.loop-i-test.true c.last_record-k.ensures)

pub loop-i-preserved : goal.loop-i-preserved
loop-i-preserved c = trace-on c.requires c.loop-i.invariant c.loop-i-test.true c.last_record-k.ensures c.put_listed.ensures c.far-v.ensures

pub returns : goal.returns
returns c = trace-end c.loop-i.invariant (omega (arith, c.loop-i-test.false))
