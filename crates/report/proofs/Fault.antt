-- A report is sound or has a fault, never both, and the first place at fault is one: right fields say their own length, so that the bytes
-- leave no choice of where the next one begins.
-- Assumes nothing.
use Prim.Native.Nat.{ℕ, ◌+◌, ◌≤◌}
use native.Mathlib.Omega.{arith}
use mathlib.Core.Path.{◌≡◌, refl, sym, ◌∙◌, ap, subst}
use mathlib.Core.Logic.{◌⊎◌, inl, inr}
use mathlib.Core.List.{List, [], ◌∷◌, ◌++◌, append-nil, append_assoc}
use lib.ListN.{length, length-append}
use Rattle.job_field.specs.Items.{Matter, Moment, Question, Item}
use Rattle.report.specs.Report.{numbers, field, Reasoned, because, breached, Filed, unfiled, filed, Answers, led, reasoned, apart, intact, parted, joined, Totalled, total, Sound, totals, passed, answered}
use Rattle.report.specs.Fault.{Stands, stands, FaultAt, past, behind, wrong, astray, closing, spare}
use Rattle.report.proofs.Bytes.{field-one, numbers-one}

-- A right field is a field.
pub record Fielded (f : List ℕ) : Type 0 where
  pub kind : ℕ
  pub body : List ℕ
  pub is : f ≡ field kind body

-- A field of a reason: 84 or 86.
pub record Because (f : List ℕ) : Type 0 where
  pub kind : ℕ
  pub body : List ℕ
  pub is : f ≡ field kind body
  pub which : (kind ≡ 132) ⊎ (kind ≡ 134)

pub reasoned-field : {M : Matter} {b : Moment} {q : Question} {L f : List ℕ} → Reasoned M b q L f → Because f
reasoned-field (because {L = L} r) = record { kind = 132; body = numbers L; is = refl; which = inl refl }
reasoned-field (breached {k = k} {L = L} e r) = record { kind = 134; body = numbers (k ∷ L); is = refl; which = inr refl }

because-field : {f : List ℕ} → Because f → Fielded f
because-field h = record { kind = h.kind; body = h.body; is = h.is }

-- It says its list.
pub reasoned-one : {M : Matter} {b : Moment} {q : Question} {L L' f f' : List ℕ} → Reasoned M b q L f → Reasoned M b q L' f' → f ≡ f' → L ≡ L'
reasoned-one (because {L = L} r) (because {L = L'} r') e = numbers-one L L' (field-one 132 132 (numbers L) (numbers L') [] [] (ap (λ (l : List ℕ). l ++ []) e)).1
reasoned-one (breached {k = k} {L = L} h r) (breached {k = k'} {L = L'} h' r') e =
    let p : k ∷ L ≡ k' ∷ L' = numbers-one (k ∷ L) (k' ∷ L') (field-one 134 134 (numbers (k ∷ L)) (numbers (k' ∷ L')) [] [] (ap (λ (l : List ℕ). l ++ []) e)).1 in
    cc

-- An answer is one field of another kind, or that of a reason and what stands behind it.
pub data Parts (M : Matter) (b : Moment) (q : Question) : List ℕ → Type 0 where
  lone : (kind : ℕ) (body : List ℕ) → (kind ≡ 132 → ⊥) → (kind ≡ 134 → ⊥) → Parts M b q (field kind body)
  pair : {L f g : List ℕ} → Reasoned M b q L f → Filed M L g → Parts M b q (f ++ g)

pub answers-parts : {M : Matter} {b : Moment} {q : Question} {f : List ℕ} → Answers M b q f → Parts M b q f
answers-parts (led {l = l} {m = m} h k) = lone 131 (numbers (l ∷ m ∷ [])) (λ e. omega arith) (λ e. omega arith)
answers-parts (reasoned r g) = pair r g
answers-parts (apart h) = lone 133 [] (λ e. omega arith) (λ e. omega arith)
answers-parts (intact u) = lone 135 [] (λ e. omega arith) (λ e. omega arith)
answers-parts (parted {L = L} h d) = lone 136 (numbers L) (λ e. omega arith) (λ e. omega arith)
answers-parts (joined h) = lone 137 [] (λ e. omega arith) (λ e. omega arith)

pub totalled-field : {M : Matter} {f : List ℕ} → Totalled M f → Fielded f
totalled-field (total {c} {i} h k) = record { kind = 143; body = numbers (c ∷ i ∷ []); is = refl }

-- Where two fields stand at the front of the same bytes, they are one and so is what is left.
pub fielded-one : {f g : List ℕ} (x y : List ℕ) → Fielded f → Fielded g → f ++ x ≡ g ++ y → (f ≡ g) × (x ≡ y)
fielded-one x y h k e =
    let r = field-one h.kind k.kind h.body k.body x y (rw (h.is, k.is) at e) in
    (let a : h.kind ≡ k.kind = r.0 in let b : h.body ≡ k.body = r.1 in h.is ∙ rw (a, b) (sym k.is), r.2)

-- A right field stands wherever it and some rest are the bytes.
pub stands-in : {P : List ℕ → Type 0} (f bs : List ℕ) {cs : List ℕ} → P f → f ++ bs ≡ cs → Stands P cs
stands-in {P} f bs h e = subst (λ (l : List ℕ). Stands P l) e (stands h bs)

-- A field of another kind than those of reasons is none of them.
other-kind : {f : List ℕ} (kind : ℕ) (body x y : List ℕ) → (kind ≡ 132 → ⊥) → (kind ≡ 134 → ⊥) → Because f → field kind body ++ x ≡ f ++ y → ⊥
other-kind kind body x y m n c e = go c.which (field-one kind c.kind body c.body x y (rw c.is at e)).0
  where
    go : (c.kind ≡ 132) ⊎ (c.kind ≡ 134) → kind ≡ c.kind → ⊥
    go (inl w) k = m (k ∙ w)
    go (inr w) k = n (k ∙ w)

length-same : {f g : List ℕ} {m n : ℕ} → f ≡ g → m ≡ n → m + length f ≡ n + length g
length-same e a = rw (e, a)

module _ {M : Matter} where
  -- So where two times the sheets of a reason stand, ..
  filed-one : {L L' g h : List ℕ} (x y : List ℕ) → Filed M L g → Filed M L' h → g ++ x ≡ h ++ y → (g ≡ h) × (x ≡ y)
  filed-one x y (unfiled a) (unfiled b) e = (refl, e)
  filed-one x y (unfiled a) (filed b s) e = let z : ◌≡◌ {A = ℕ} 0 1 = cc in absurd (omega arith)
  filed-one x y (filed a s) (unfiled b) e = let z : ◌≡◌ {A = ℕ} 0 1 = cc in absurd (omega arith)
  filed-one x y (filed {hs = hs} a s) (filed {hs = ks} b t) e =
      fielded-one x y (record { kind = 138; body = numbers hs; is = refl }) (record { kind = 138; body = numbers ks; is = refl }) e

  module _ {b : Moment} {q : Question} where
    -- .. where an answer stands and a reason, the sheets of this one stand behind it, ..
    pub reason-filed : {L f g : List ℕ} (x y : List ℕ) → Answers M b q g → Reasoned M b q L f → g ++ x ≡ f ++ y → Stands (Filed M L) y
    reason-filed {L} {f} x y a r = go (answers-parts a)
      where
        go : {g : List ℕ} → Parts M b q g → g ++ x ≡ f ++ y → Stands (Filed M L) y
        go (lone kind body m n) e = absurd (other-kind kind body x y m n (reasoned-field r) e)
        go (pair {L = L'} {f = f'} {g = g'} r' s) e =
            let o = fielded-one (g' ++ x) y (because-field (reasoned-field r')) (because-field (reasoned-field r)) (sym (append_assoc f' g' x) ∙ e) in
            stands-in g' x (subst (λ (l : List ℕ). Filed M l g') (reasoned-one r' r o.0) s) o.1

    -- .. and where two answers stand at the front of the same bytes, they are one and so is what is left.
    pub answers_one : {f g : List ℕ} (x y : List ℕ) → Answers M b q f → Answers M b q g → f ++ x ≡ g ++ y → (f ≡ g) × (x ≡ y)
    answers_one x y a c = go (answers-parts a) (answers-parts c)
      where
        go : {f g : List ℕ} → Parts M b q f → Parts M b q g → f ++ x ≡ g ++ y → (f ≡ g) × (x ≡ y)
        go (lone k body m n) (lone k' body' m' n') e = fielded-one x y (record { kind = k; body = body; is = refl }) (record { kind = k'; body = body'; is = refl }) e
        go (lone k body m n) (pair {f = f} {g = g} r s) e = absurd (other-kind k body x (g ++ y) m n (reasoned-field r) (e ∙ append_assoc f g y))
        go (pair {f = f} {g = g} r s) (lone k body m n) e = absurd (other-kind k body y (g ++ x) m n (reasoned-field r) (sym e ∙ append_assoc f g x))
        go (pair {f = f} {g = g} r s) (pair {f = f'} {g = g'} r' s') e =
            let o = fielded-one (g ++ x) (g' ++ y) (because-field (reasoned-field r)) (because-field (reasoned-field r')) (sym (append_assoc f g x) ∙ e ∙ append_assoc f' g' y) in
            let i = filed-one x y s s' o.1 in
            (let p : f ≡ f' = o.0 in let p' : g ≡ g' = i.0 in rw (p, p'), i.1)

  -- Never both.
  apart_from : {b : Moment} {is : List Item} {at p : ℕ} {bs cs : List ℕ} → bs ≡ cs → Sound M b is bs → FaultAt M b is at cs p → ⊥
  apart_from {bs = bs} e (totals t) (closing h) = h (stands-in bs [] t (append-nil bs ∙ e))
  apart_from {bs = bs} e (totals t) (spare u b cs) =
      let r : [] ≡ b ∷ cs = (fielded-one [] (b ∷ cs) (totalled-field t) (totalled-field u) (append-nil bs ∙ e)).1 in
      let z : ◌≡◌ {A = ℕ} 0 1 = cc in
      omega arith
  apart_from e (passed s) (past f) = apart_from e s f
  apart_from e (answered {bs = bs} a s) (behind {bs = cs} b f) = apart_from (answers_one bs cs a b e).1 s f
  apart_from e (answered {f = f} {bs = bs} a s) (wrong h l) = h (stands-in f bs a e)
  apart_from e (answered {bs = bs} a s) (astray {bs = cs} r n) = n (reason-filed bs cs a r e)

  pub sound-no-fault : {b : Moment} {is : List Item} {at p : ℕ} {bs : List ℕ} → Sound M b is bs → FaultAt M b is at bs p → ⊥
  sound-no-fault = apart_from refl

  -- The place is one.
  meets : {b : Moment} {is : List Item} {at at' p p' : ℕ} {bs cs : List ℕ} → bs ≡ cs → at ≡ at' → FaultAt M b is at bs p → FaultAt M b is at' cs p' → p ≡ p'
  meets e a (past f) (past g) = meets e a f g
  meets e a (behind {bs = bs} h f) (behind {bs = cs} k g) =
      let r = answers_one bs cs h k e in
      meets r.1 (length-same r.0 a) f g
  meets e a (behind {f = x} {bs = bs} h f) (wrong n l) = absurd (n (stands-in x bs h e))
  meets e a (behind {bs = bs} h f) (astray {bs = cs} r n) = absurd (n (reason-filed bs cs h r e))
  meets e a (wrong n l) (behind {f = x} {bs = bs} h f) = absurd (n (stands-in x bs h (sym e)))
  meets e a (wrong n l) (wrong m k) = a
  meets e a (wrong n l) (astray {L = L} {f = x} {bs = bs} r k) = absurd (l L (stands-in x bs r (sym e)))
  meets e a (astray {bs = bs} r n) (behind {bs = cs} h f) = absurd (n (reason-filed cs bs h r (sym e)))
  meets e a (astray {L = L} {f = x} {bs = bs} r k) (wrong n l) = absurd (l L (stands-in x bs r e))
  meets e a (astray {bs = bs} r n) (astray {bs = cs} u m) = length-same (fielded-one bs cs (because-field (reasoned-field r)) (because-field (reasoned-field u)) e).0 a
  meets e a (closing n) (closing m) = a
  meets e a (closing n) (spare {f = x} t b bs) = absurd (n (stands-in x (b ∷ bs) t (sym e)))
  meets e a (spare {f = x} t b bs) (closing n) = absurd (n (stands-in x (b ∷ bs) t e))
  meets e a (spare t b bs) (spare u c cs) = length-same (fielded-one (b ∷ bs) (c ∷ cs) (totalled-field t) (totalled-field u) e).0 a

  pub one-fault : {b : Moment} {is : List Item} {at p p' : ℕ} {bs : List ℕ} → FaultAt M b is at bs p → FaultAt M b is at bs p' → p ≡ p'
  one-fault = meets refl refl

  -- The place lies in the report, or is its length.
  pub fault-within : {b : Moment} {is : List Item} {at p : ℕ} {bs : List ℕ} → FaultAt M b is at bs p → (at ≤ p) × (p ≤ at + length bs)
  fault-within (past f) = fault-within f
  fault-within (behind {f = x} {bs = bs} h f) = let r = fault-within f in (omega (arith, r.0), omega (arith, r.1, length-append x bs))
  fault-within (wrong n l) = (omega arith, omega arith)
  fault-within (astray {f = x} {bs = bs} r n) = (omega arith, omega (arith, length-append x bs))
  fault-within (closing n) = (omega arith, omega arith)
  fault-within (spare {f = x} t b bs) = (omega arith, omega (arith, length-append x (b ∷ bs)))
