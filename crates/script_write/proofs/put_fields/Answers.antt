use native.Mathlib.Omega.{arith}
use Rattle.script_write.proofs.Fields.{putting-start, putting-space, putting-on, putting-end}
use Rattle.script_write.proofs.put_fields.Goals as goal

pub loop-i-init : goal.loop-i-init
loop-i-init c = putting-start _ _ _ _ _

pub put_field-at-requires : goal.put_field-at-requires
put_field-at-requires c = let A = c.requires in (A.long, (let f = A.few in omega arith), A.symbols, putting-space A c.loop-i.invariant)

pub loop-i-preserved : goal.loop-i-preserved
loop-i-preserved c = putting-on c.requires c.loop-i.invariant (omega arith) c.put_field-at.ensures c.put_field-at.auto.room

pub returns : goal.returns
returns c = putting-end c.requires c.loop-i.invariant (omega arith)
