-- From the job to the congruences. A tag names one part. Parts that miss no argument are terms, and are compared by the congruence; parts that miss some are
-- compared by their symbol and their arguments, which only records of applications can bring together. So what follows equal is equal. Assumes nothing.
use Prim.Native.Nat.{ℕ, zero, suc}
use native.Mathlib.Omega.{arith}
use mathlib.Core.Path.{◌≡◌, sym, ◌∙◌}
use mathlib.Core.List.{List}
use Rattle.meaning.specs.Following.{Rec, eq, app, Follows, same, flip, chain, given, congruent}
use Rattle.script_terms.specs.Flat.{Part, symbol, applied, tag_of}
use Rattle.script_terms.proofs.Known.{Known, name_of, known-named, Within, bare, with, within_in}

-- The same symbol, and arguments equal by R place by place.
pub data Alike (R : Part → Part → Type 0) : Part → Part → Type 0 where
  head : {f : ℕ} → Alike R (symbol f) (symbol f)
  arg : {p q s t : Part} → Alike R p q → R s t → Alike R (applied p s) (applied q t)

-- A congruence, on parts.
pub record Regular (In : Part → Type 0) (R : Part → Part → Type 0) : Type 0 where
  pub reflexive : (p : Part) → In p → R p p
  pub symmetric : {p q : Part} → R p q → R q p
  pub transitive : {p q r : Part} → R p q → R q r → R p r
  pub monotonic : {p q : Part} → In p → In q → Alike R p q → R p q

-- The records name parts: an equation two that are equal, an application two halves and their whole.
pub record Equation (S : ℕ) (ar : ℕ → ℕ) (In : Part → Type 0) (R : Part → Part → Type 0) (l : List Part) (i j : ℕ) : Type 0 where
  pub left : Part
  pub right : Part
  pub left_is : name_of S l i ≡ left
  pub right_is : name_of S l j ≡ right
  pub left_in : Within S ar In left 0
  pub right-in : Within S ar In right 0
  pub equal : R left right

pub record Application (S : ℕ) (ar : ℕ → ℕ) (In : Part → Type 0) (l : List Part) (a b c : ℕ) : Type 0 where
  pub left : Part
  pub right : Part
  pub missing : ℕ
  pub left_is : name_of S l a ≡ left
  pub right_is : name_of S l b ≡ right
  pub whole_is : name_of S l c ≡ applied left right
  pub whole_in : Within S ar In (applied left right) missing

module _ {S : ℕ} {ar : ℕ → ℕ} {In : Part → Type 0} where
  pub within-one : {p : Part} {n m : ℕ} → Within S ar In p n → Within S ar In p m → n ≡ m
  within-one (bare h e i) (bare h' e' i') = sym e ∙ e'
  within-one (with {n = n} u v i) (with {n = m} u' v' i') = let e : suc n ≡ suc m = within-one u u' in omega arith

  lefts : {p q : Part} {n : ℕ} → Within S ar In (applied p q) n → Within S ar In p (suc n)
  lefts (with u v i) = u

  rights : {p q : Part} {n : ℕ} → Within S ar In (applied p q) n → Within S ar In q 0
  rights (with u v i) = v

module _ (S : ℕ) (ar : ℕ → ℕ) (In : Part → Type 0) (R : Part → Part → Type 0) (C : Regular In R) where
  alike_refl : {p : Part} {n : ℕ} → Within S ar In p n → Alike R p p
  alike_refl (bare h e i) = head
  alike_refl (with {q = q} u v i) = arg (alike_refl u) (C.reflexive q (within_in v))

  alike-sym : {p q : Part} → Alike R p q → Alike R q p
  alike-sym head = head
  alike-sym (arg a r) = arg (alike-sym a) (C.symmetric r)

  alike-trans : {p q r : Part} → Alike R p q → Alike R q r → Alike R p r
  alike-trans head head = head
  alike-trans (arg a r) (arg b s) = arg (alike-trans a b) (C.transitive r s)

  data Equal : Part → Part → Type 0 where
    full : {p q : Part} → Within S ar In p 0 → Within S ar In q 0 → R p q → Equal p q
    partial : {p q : Part} {n : ℕ} → Within S ar In p (suc n) → Within S ar In q (suc n) → Alike R p q → Equal p q

  equal-refl : {p : Part} (n : ℕ) → Within S ar In p n → Equal p p
  equal-refl {p} zero w = full w w (C.reflexive p (within_in w))
  equal-refl (suc n) w = partial w w (alike_refl w)

  equal-sym : {p q : Part} → Equal p q → Equal q p
  equal-sym (full w w' r) = full w' w (C.symmetric r)
  equal-sym (partial w w' a) = partial w' w (alike-sym a)

  clash : {p : Part} {n : ℕ} → Within S ar In p 0 → Within S ar In p (suc n) → ⊥
  clash {n = n} w w' = let e : 0 ≡ suc n = within-one w w' in omega arith

  equal-trans : {p q r : Part} → Equal p q → Equal q r → Equal p r
  equal-trans (full w w' r) (full v v' s) = full w v' (C.transitive r s)
  equal-trans (full w w' r) (partial v v' s) = absurd (clash w' v)
  equal-trans (partial w w' r) (full v v' s) = absurd (clash v w')
  equal-trans (partial {n = n} w w' r) (partial {n = m} v v' s) = let e : suc n ≡ suc m = within-one w' v in partial (rw e at w) v' (alike-trans r s)

  equal-full : {p q : Part} → Within S ar In p 0 → Equal p q → R p q
  equal-full h (full w w' r) = r
  equal-full h (partial w w' r) = absurd (clash h w)

  equal-partial : {p q : Part} {n : ℕ} → Within S ar In p (suc n) → Equal p q → Alike R p q × Within S ar In q (suc n)
  equal-partial h (full w w' r) = absurd (clash w h)
  equal-partial {n = n} h (partial {n = m} w w' r) = let e : suc m ≡ suc n = within-one w h in (r, rw e at w')

  equal-alike : {p q : Part} (n : ℕ) → Within S ar In p n → Within S ar In q n → Alike R p q → Equal p q
  equal-alike zero w w' a = full w w' (C.monotonic (within_in w) (within_in w') a)
  equal-alike (suc n) w w' a = partial w w' a

  equal-applied : {p q p' q' : Part} {n m : ℕ} → Within S ar In (applied p q) n → Within S ar In (applied p' q') m → Equal p p' → Equal q q' → Equal (applied p q) (applied p' q')
  equal-applied {n = n} {m = m} (with u v i) (with u' v' i') a b =
      let x = equal-partial u a in
      let e : suc n ≡ suc m = within-one x.1 u' in
      let z : n ≡ m = omega arith in
      equal-alike m (rw z at (with u v i)) (with u' v' i') (arg x.0 (equal-full v b))

  module _ (l : List Part) where
    record Named (i : ℕ) (p : Part) : Type 0 where
      is : name_of S l i ≡ p
      missing : ℕ
      inside : Within S ar In p missing

    Reaches : ℕ → ℕ → Type 0
    Reaches i j = (p : Part) → Named i p → (q : Part) × Named j q × Equal p q

    reaches-given : {i j : ℕ} → Equation S ar In R l i j → Reaches i j × Reaches j i
    unfolding Reaches
    reaches-given {i} {j} E = (forth, back)
      where
        r : Equal E.left E.right
        r = full E.left_in E.right-in E.equal

        forth : (p : Part) → Named i p → (q : Part) × Named j q × Equal p q
        forth p h = (E.right, record { is = E.right_is; missing = 0; inside = E.right-in }, rw (sym h.is ∙ E.left_is) r)

        back : (p : Part) → Named j p → (q : Part) × Named i q × Equal p q
        back p h = (E.left, record { is = E.left_is; missing = 0; inside = E.left_in }, rw (sym h.is ∙ E.right_is) (equal-sym r))

    reaches-applied : {a b c a' b' c' : ℕ} → Application S ar In l a b c → Application S ar In l a' b' c' → Reaches a a' → Reaches b b' → Reaches c c'
    unfolding Reaches
    reaches-applied A B f g r h =
        let x = f A.left (record { is = A.left_is; missing = suc A.missing; inside = lefts A.whole_in }) in
        let y = g A.right (record { is = A.right_is; missing = 0; inside = rights A.whole_in }) in
        let e : x.0 ≡ B.left = sym x.1.is ∙ B.left_is in
        let e' : y.0 ≡ B.right = sym y.1.is ∙ B.right_is in
        let z : r ≡ applied A.left A.right = sym h.is ∙ A.whole_is in
        (applied B.left B.right, record { is = B.whole_is; missing = B.missing; inside = B.whole_in }, rw z (equal-applied A.whole_in B.whole_in (rw e at x.2) (rw e' at y.2)))

    module _ (Q : Rec → Type 0) (equation : (i j : ℕ) → Q (eq i j) → Equation S ar In R l i j) (application : (a b c : ℕ) → Q (app a b c) → Application S ar In l a b c) where
      follows-reaches : {i j : ℕ} → Follows Q i j → Reaches i j × Reaches j i
      unfolding Reaches
      follows-reaches same = (λ p h. (p, h, equal-refl h.missing h.inside), λ p h. (p, h, equal-refl h.missing h.inside))
      follows-reaches (flip f) = let r = follows-reaches f in (r.1, r.0)
      follows-reaches (chain f g) =
          let r = follows-reaches f in
          let s = follows-reaches g in (
            λ p h. let x = r.0 p h in let y = s.0 x.0 x.1 in (y.0, y.1, equal-trans x.2 y.2),
            λ p h. let x = s.1 p h in let y = r.1 x.0 x.1 in (y.0, y.1, equal-trans x.2 y.2),
          )
      follows-reaches (given {a = a} {b = b} q) = reaches-given (equation a b q)
      follows-reaches (congruent {a = a} {b = b} {c = c} {a' = a'} {b' = b'} {c' = c'} q q' f g) =
          let A = application a b c q in
          let B = application a' b' c' q' in
          let r = follows-reaches f in
          let s = follows-reaches g in
          (reaches-applied A B r.0 s.0, reaches-applied B A r.1 s.1)

      pub follows-equal : {p q : Part} → Known S l p → Known S l q → Within S ar In p 0 → Follows Q (tag_of S l p) (tag_of S l q) → R p q
      unfolding Reaches
      follows-equal {p} {q} h h' w e =
          let n : name_of S l (tag_of S l p) ≡ p = known-named h in
          let n' : name_of S l (tag_of S l q) ≡ q = known-named h' in
          let x = (follows-reaches e).0 p (record { is = n; missing = 0; inside = w }) in
          let z : x.0 ≡ q = sym x.1.is ∙ n' in
          equal-full w (rw z at x.2)
