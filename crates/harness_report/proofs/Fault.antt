-- A report of the harness profile is sound or has a fault, never both, and the first place at fault is one: a question has one right answer, so that the bytes leave no choice
-- of where the next one begins. Assumes nothing.
use Prim.Native.Nat.{ℕ, ◌+◌, ◌≤◌}
use native.Mathlib.Omega.{arith}
use mathlib.Core.Path.{◌≡◌, refl, sym, ◌∙◌, ap}
use mathlib.Core.List.{List, [], ◌∷◌, ◌++◌, append-nil, append_assoc}
use lib.ListN.{length, length-append}
use Rattle.job_field.specs.Items.{Matter, Moment, Question, Item}
use Rattle.report.specs.Report.{Filed}
use Rattle.report.specs.Fault.{Stands}
use Rattle.report.proofs.Fault.{totalled-field, fielded-one, stands-in}
use Rattle.harness_report.specs.Report.{HarnessReasoned, HarnessAnswers, HarnessSound, totals, passed, answered}
use Rattle.harness_report.specs.Fault.{HarnessFault, past, behind, wrong, astray, closing, spare}
use Rattle.harness_report.proofs.One.{harness-reasoned-one, reason-only, harness-answers-one}

-- What stands behind the same bytes is the same.
cut : (f x y : List ℕ) → f ++ x ≡ f ++ y → x ≡ y
cut [] x y e = e
cut (b ∷ f) x y e = let q : f ++ x ≡ f ++ y = cc e in cut f x y q

behind-same : {f g : List ℕ} (x y : List ℕ) → f ≡ g → f ++ x ≡ g ++ y → x ≡ y
behind-same {f} {g} x y q e = cut g x y (ap (λ (l : List ℕ). l ++ x) (sym q) ∙ e)

length-same : {f g : List ℕ} {m n : ℕ} → f ≡ g → m ≡ n → m + length f ≡ n + length g
length-same e a = rw (e, a)

module _ {M : Matter} where
  -- Where an answer stands and a reason, the sheets of this one stand behind it.
  pub reason-filed : {b : Moment} {q : Question} {L f g : List ℕ} (x y : List ℕ) → HarnessAnswers M b q g → HarnessReasoned M b q L f → g ++ x ≡ f ++ y → Stands (Filed M L) y
  reason-filed {f = f} x y a r e =
      let o = reason-only r a in
      stands-in o.0 x o.1 (cut f (o.0 ++ x) y (sym (append_assoc f o.0 x) ∙ ap (λ (l : List ℕ). l ++ x) (sym o.2) ∙ e))

  -- Never both.
  apart_from : {b : Moment} {is : List Item} {at p : ℕ} {bs cs : List ℕ} → bs ≡ cs → HarnessSound M b is bs → HarnessFault M b is at cs p → ⊥
  apart_from {bs = bs} e (totals t) (closing h) = h (stands-in bs [] t (append-nil bs ∙ e))
  apart_from {bs = bs} e (totals t) (spare u b cs) =
      let r : [] ≡ b ∷ cs = (fielded-one [] (b ∷ cs) (totalled-field t) (totalled-field u) (append-nil bs ∙ e)).1 in
      let z : ◌≡◌ {A = ℕ} 0 1 = cc in
      omega arith
  apart_from e (passed s) (past f) = apart_from e s f
  apart_from e (answered {bs = bs} a s) (behind {bs = cs} b f) = apart_from (behind-same bs cs (harness-answers-one a b) e) s f
  apart_from e (answered {f = f} {bs = bs} a s) (wrong h l) = h (stands-in f bs a e)
  apart_from e (answered {bs = bs} a s) (astray {bs = cs} r n) = n (reason-filed bs cs a r e)

  pub harness-no-fault : {b : Moment} {is : List Item} {at p : ℕ} {bs : List ℕ} → HarnessSound M b is bs → HarnessFault M b is at bs p → ⊥
  harness-no-fault = apart_from refl

  -- The place is one.
  meets : {b : Moment} {is : List Item} {at at' p p' : ℕ} {bs cs : List ℕ} → bs ≡ cs → at ≡ at' → HarnessFault M b is at bs p → HarnessFault M b is at' cs p' → p ≡ p'
  meets e a (past f) (past g) = meets e a f g
  meets e a (behind {bs = bs} h f) (behind {bs = cs} k g) =
      let r = harness-answers-one h k in
      meets (behind-same bs cs r e) (length-same r a) f g
  meets e a (behind {f = x} {bs = bs} h f) (wrong n l) = absurd (n (stands-in x bs h e))
  meets e a (behind {bs = bs} h f) (astray {bs = cs} r n) = absurd (n (reason-filed bs cs h r e))
  meets e a (wrong n l) (behind {f = x} {bs = bs} h f) = absurd (n (stands-in x bs h (sym e)))
  meets e a (wrong n l) (wrong m k) = a
  meets e a (wrong n l) (astray {L = L} {f = x} {bs = bs} r k) = absurd (l L (stands-in x bs r (sym e)))
  meets e a (astray {bs = bs} r n) (behind {bs = cs} h f) = absurd (n (reason-filed cs bs h r (sym e)))
  meets e a (astray {L = L} {f = x} {bs = bs} r k) (wrong n l) = absurd (l L (stands-in x bs r e))
  meets e a (astray r n) (astray u m) = length-same (harness-reasoned-one r u).1 a
  meets e a (closing n) (closing m) = a
  meets e a (closing n) (spare {f = x} t b bs) = absurd (n (stands-in x (b ∷ bs) t (sym e)))
  meets e a (spare {f = x} t b bs) (closing n) = absurd (n (stands-in x (b ∷ bs) t e))
  meets e a (spare t b bs) (spare u c cs) = length-same (fielded-one (b ∷ bs) (c ∷ cs) (totalled-field t) (totalled-field u) e).0 a

  pub harness-fault-one : {b : Moment} {is : List Item} {at p p' : ℕ} {bs : List ℕ} → HarnessFault M b is at bs p → HarnessFault M b is at bs p' → p ≡ p'
  harness-fault-one = meets refl refl

  -- The place lies in the report, or is its length.
  pub harness-fault-within : {b : Moment} {is : List Item} {at p : ℕ} {bs : List ℕ} → HarnessFault M b is at bs p → (at ≤ p) × (p ≤ at + length bs)
  harness-fault-within (past f) = harness-fault-within f
  harness-fault-within (behind {f = x} {bs = bs} h f) = let r = harness-fault-within f in (omega (arith, r.0), omega (arith, r.1, length-append x bs))
  harness-fault-within (wrong n l) = (omega arith, omega arith)
  harness-fault-within (astray {f = x} {bs = bs} r n) = (omega arith, omega (arith, length-append x bs))
  harness-fault-within (closing n) = (omega arith, omega arith)
  harness-fault-within (spare {f = x} t b bs) = (omega arith, omega (arith, length-append x (b ∷ bs)))
