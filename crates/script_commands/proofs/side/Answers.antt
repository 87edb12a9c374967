use native.Mathlib.Omega.{arith}
use Rattle.script_commands.proofs.Asking.{ask-term, side-of}
use Rattle.script_commands.proofs.side.Goals as goal

pub term-requires : goal.term-requires
term-requires c = (ask-term c.requires c.read_at-x.ensures, omega arith)

pub returns : goal.returns
returns c = side-of c.read_at-x.ensures _ c.term.ensures
