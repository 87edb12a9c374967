use native.Mathlib.Omega.{arith}
use mathlib.Core.Path.{refl, ap}
use Rattle.script_tokens.specs.Kinds.{number}
use Rattle.script_tokens.proofs.Apart.{number-apart}
use Rattle.script_term_read.proofs.Ways.{bare-ready, bare-14, bare-15, bare-some, bare-16, bare-good}
use Rattle.script_term_read.proofs.bare.Goals as goal

pub returns-in_default : goal.returns-in_default
returns-in_default c = record { told = λ c' x y z. bare-14 c.requires.0 c.requires.1 _ (number-apart c.in_default.not-Name) }

pub look_up-requires : goal.look_up-requires
look_up-requires c = bare-ready c.requires.0 (ap number c.in-Name.is)

pub returns-in_default-look_up : goal.returns-in_default-look_up
returns-in_default-look_up c = record { told = λ c' x y z. bare-15 c.requires.0 c.requires.1 _ (ap number c.in-Name.is) c.in_default-look_up.ensures refl }

pub returns-then-symbol-ne0 : goal.returns-then-symbol-ne0
returns-then-symbol-ne0 c = record { told = λ c' x y z. bare-some c.requires.0 c.requires.1 _ (ap number c.in-Name.is) c.in-Some.ensures refl c.if-symbol-ne0.true }

pub returns-then-depth-gt-DEEPEST : goal.returns-then-depth-gt-DEEPEST
returns-then-depth-gt-DEEPEST c = record { told = λ c' x y z. bare-16 c.requires.0 c.requires.1 _ (ap number c.in-Name.is) c.in-Some.ensures refl c.if-symbol-ne0.false (omega arith) }

pub returns : goal.returns
returns c = record { told = bare-good c.requires.0 c.requires.1 _ (ap number c.in-Name.is) c.in-Some.ensures refl c.if-symbol-ne0.false (omega arith) }
