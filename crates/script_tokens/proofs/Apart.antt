-- A kind's number says which kind it is. Assumes nothing.
use Prim.Native.Nat.{ℕ, zero, suc, ◌+◌}
use native.Mathlib.Omega.{arith}
use mathlib.Core.Path.{◌≡◌, refl, sym, ◌∙◌, ap}
use mathlib.Core.Logic.{◌≢◌}
use Rattle.script_tokens.specs.declared.Kind.{Kind}
use Rattle.script_tokens.specs.declared.Kind.TheVariants.{End, Opening, Closing, Other, Name, Known}
use Rattle.script_tokens.specs.Kinds.{number}

abbrev kind_at : ℕ → Kind
kind_at zero = End
kind_at (suc zero) = End
kind_at (suc (suc zero)) = End
kind_at (suc (suc (suc zero))) = Opening
kind_at (suc (suc (suc (suc zero)))) = Closing
kind_at (suc (suc (suc (suc (suc zero))))) = Other
kind_at (suc (suc (suc (suc (suc (suc zero)))))) = Name
kind_at (suc (suc (suc (suc (suc (suc (suc w))))))) = Known w

back : (k : Kind) → kind_at (number k) ≡ k
back End = refl
back Opening = refl
back Closing = refl
back Other = refl
back Name = refl
back (Known w) = let e : 7 + w ≡ suc (suc (suc (suc (suc (suc (suc w)))))) = omega arith in rw e refl

pub number-one : {a b : Kind} → number a ≡ number b → a ≡ b
number-one {a} {b} e = sym (back a) ∙ ap kind_at e ∙ back b

pub number-apart : {a b : Kind} → a ≢ b → number a ≢ number b
number-apart d e = d (number-one e)
