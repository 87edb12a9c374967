use mathlib.Core.Path.{refl}
use native.Mathlib.Omega.{arith}
use Rattle.script_fields.proofs.Fields.{clear-start, clear-on, begun}
use Rattle.script_fields.proofs.begin.Goals as goal

pub loop-key-init : goal.loop-key-init
loop-key-init c = clear-start _ c.requires

pub loop-key-preserved : goal.loop-key-preserved
loop-key-preserved c = clear-on c.loop-key.invariant c.loop-key-test.true c.store.ensures c.store-in-loop-key.ensures

pub returns : goal.returns
returns c = begun c.loop-key.invariant (omega arith) (record { symbols = refl; parts = refl; records = refl; differs = refl; checks = refl; fields = refl; sum = refl })
