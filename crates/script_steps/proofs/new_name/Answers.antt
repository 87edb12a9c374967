use mathlib.Core.Path.{refl, ap}
use native.Mathlib.Omega.{arith}
use Rattle.script_tokens.specs.Kinds.{number}
use Rattle.script_tokens.proofs.Apart.{number-apart}
use Rattle.script_heads.proofs.Naming.{look-ready}
use Rattle.script_steps.proofs.Stepping.{name-outside, name-core, name-used, name-long, name-new, name-order}
use Rattle.script_steps.proofs.new_name.Goals as goal

pub returns-then-not-is_simple : goal.returns-then-not-is_simple
returns-then-not-is_simple c = name-outside c.read_at-x.result c.read_at-x.ensures c.is_simple.ensures c.if-not-is_simple.true

pub returns-in_default : goal.returns-in_default
returns-in_default c = name-core c.read_at-x.result c.read_at-x.ensures c.is_simple.ensures c.if-not-is_simple.false (number-apart c.in_default.not-Name)

pub look_up-requires : goal.look_up-requires
look_up-requires c = look-ready c.requires c.read_at-x.ensures (ap number c.in-Name.is)

pub returns-in-Some : goal.returns-in-Some
returns-in-Some c = name-used c.read_at-x.result c.read_at-x.ensures c.is_simple.ensures c.if-not-is_simple.false (ap number c.in-Name.is) c.in-Some.ensures refl

pub overflow_sub-x : goal.overflow_sub-x
overflow_sub-x c = let h = name-order c.read_at-x.result c.read_at-x.ensures c.is_simple.ensures c.if-not-is_simple.false in omega arith

pub returns-then-x-gt32 : goal.returns-then-x-gt32
returns-then-x-gt32 c = name-long c.read_at-x.result c.read_at-x.ensures c.is_simple.ensures c.if-not-is_simple.false (ap number c.in-Name.is) c.in_default-look_up.ensures refl c.if-x-gt32.true

pub returns : goal.returns
returns c = name-new c.read_at-x.result c.read_at-x.ensures c.is_simple.ensures c.if-not-is_simple.false (ap number c.in-Name.is) c.in_default-look_up.ensures refl (omega arith)
