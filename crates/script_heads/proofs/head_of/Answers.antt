use mathlib.Core.Path.{refl, ap}
use Rattle.script_tokens.specs.Kinds.{number}
use Rattle.script_tokens.proofs.Apart.{number-apart}
use Rattle.script_heads.proofs.Naming.{look-ready, head-outside, head-undeclared, head-declared}
use Rattle.script_heads.proofs.head_of.Goals as goal

pub returns-in_default : goal.returns-in_default
returns-in_default c = head-outside c.requires c.read_at-x.ensures (number-apart c.in_default.not-Name) 0 0 0

pub look_up-requires : goal.look_up-requires
look_up-requires c = look-ready c.requires c.read_at-x.ensures (ap number c.in-Name.is)

pub returns-in-Some : goal.returns-in-Some
returns-in-Some c = head-declared c.requires c.read_at-x.ensures (ap number c.in-Name.is) c.in-Some.ensures refl

pub returns-in-None : goal.returns-in-None
returns-in-None c = head-undeclared c.requires c.read_at-x.ensures (ap number c.in-Name.is) c.in-None.ensures refl 0 0 0
