-- Reading on behind what has been read, as the definitions have it: a refusal is the whole's, and what was read is handed on. Assumes nothing.
use Prim.Native.Nat.{ℕ}
use mathlib.Core.Path.{◌≡◌, ◌∙◌, ap}
use mathlib.Core.Bool.{Bool, true, false}
use Rattle.std.specs.Prelude.{Result, Ok, Err}
use Rattle.std.specs.Result.{IsErr, IsErrAnd}
use Rattle.script_meaning.specs.Reading.{Got, fault, got, ◌>>=◌, must, either}
use Rattle.script_shelf.specs.declared.refusal.Fault.{Fault}
use Rattle.script_shelf.specs.declared.refusal.Refusal.{Refusal}
use Rattle.script_steps.specs.Steps.{Gave, Outcome}

-- A refusal at a place.
abbrev pub refuse : {B : Type 0} → Fault → ℕ → Result B Refusal
refuse f p = Err (record { fault = f; place = p })

-- Behind a refusal nothing is read; behind what was read, what is left.
module _ {A B : Type 0} (g : Got A) (f : A → Got B) where
  pub then-refused : {n p : ℕ} → g ≡ fault n p → (g >>= f) ≡ fault n p
  unfolding ◌>>=◌
  then-refused e = rw e

  pub then-got : {a : A} → g ≡ got a → (g >>= f) ≡ f a
  unfolding ◌>>=◌
  then-got e = rw e

-- The same by what was read and what is known of it.
pub then-fault : {A B C : Type 0} (g : Got A) (f : A → Got B) {P : A → C → Type 0} {b : C} {n p : ℕ} → Gave g P b → ((a : A) → P a b → f a ≡ fault n p) → (g >>= f) ≡ fault n p
then-fault g f G h = then-got g f G.is ∙ h G.value G.holds

pub as-of : {A B : Type 0} {g h : Got A} (P : A → B → Type 0) (r : Result B Refusal) → g ≡ h → Outcome h P r → Outcome g P r
as-of P (Ok b) e o = record { value = o.value; is = e ∙ o.is; holds = o.holds }
as-of P (Err x) e o = e ∙ o

pub then-gave : {A B C D : Type 0} (g : Got A) (f : A → Got B) {P : A → C → Type 0} {b : C} (Q : B → D → Type 0) (r : Result D Refusal) → Gave g P b → ((a : A) → P a b → Outcome (f a) Q r) → Outcome (g >>= f) Q r
then-gave g f Q r G h = as-of Q r (then-got g f G.is) (h G.value G.holds)

module _ {B : Type 0} (b : Bool) (n p : ℕ) (f : Unit {0} → Got B) where
  pub must-yes : b ≡ true → (must b n p >>= f) ≡ f tt
  unfolding must ◌>>=◌
  must-yes e = rw e

  pub must-no : b ≡ false → (must b n p >>= f) ≡ fault n p
  unfolding must ◌>>=◌
  must-no e = rw e

module _ {A : Type 0} (b : Bool) (f g : Unit {0} → Got A) where
  pub either-yes : b ≡ true → either b f g ≡ f tt
  unfolding either
  either-yes e = rw e

  pub either-no : b ≡ false → either b f g ≡ g tt
  unfolding either
  either-no e = rw e

-- What was read has another property too.
pub out-map : {A B : Type 0} (g : Got A) (P Q : A → B → Type 0) (r : Result B Refusal) → ((a : A) (b : B) → P a b → Q a b) → Outcome g P r → Outcome g Q r
out-map g P Q (Ok b) h o = record { value = o.value; is = o.is; holds = h o.value b o.holds }
out-map g P Q (Err e) h o = o

-- What a `?` hands on is the refusal that came.
pub handed : {B : Type 0} {r : Result B Refusal} {e : Refusal} → IsErr r × IsErrAnd r (λ y. y ≡ e) → r ≡ Err e
handed {r = Ok b} h = absurd h.1
handed {r = Err y} h = ap Err h.1
