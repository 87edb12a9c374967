use native.Mathlib.Omega.{arith}
use Rattle.script_write.proofs.Fields.{shift-low, shift-high}
use Rattle.script_write.proofs.tag_of.Goals as goal

pub returns-then-number-lt1001 : goal.returns-then-number-lt1001
returns-then-number-lt1001 c = shift-low _ _ c.if-number-lt1001.true

pub returns : goal.returns
returns c = shift-high _ _ (omega arith)
