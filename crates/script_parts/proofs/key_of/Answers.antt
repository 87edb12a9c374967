use native.Mathlib.Omega.{arith}
use Rattle.script_parts.specs.Pairs.{key_of}
use Rattle.script_parts.proofs.key_of.Goals as goal

pub returns : goal.returns
unfolding key_of
returns c = (cc, omega arith)
