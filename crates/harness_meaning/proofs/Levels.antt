-- Levels that are done are distances: no way is shorter than its end's level, and the last records make one that is as short. On such a way each record leads one level up,
-- so none stands twice and a record that leads higher is new. Two of them that part are compared by going back in step. Assumes nothing.
use Prim.Native.Nat.{ℕ, zero, suc, ◌≤◌, ◌<◌, min}
use native.Mathlib.Omega.{arith}
use native.Mathlib.Decide.{ℕ_discrete, dec_lt, dec_le}
use mathlib.Core.Path.{◌≡◌, refl, sym, ◌∙◌, ap}
use mathlib.Core.Logic.{◌≢◌, ◌⊎◌, inl, inr}
use mathlib.Core.Bool.{Bool, true, false, cond}
use mathlib.Core.List.Memᴰ
use mathlib.Core.List.{List, [], ◌∷◌, ◌++◌, Memᴰ}
use lib.Dec.{eqb, ltb}
use borrow.Author.Tests.{ltb-true, ltb-false, eqb-true, eqb-false, eq-eqb, ne_eqb}
use Rattle.harness_meaning.specs.Search.{Ends, forth, back, Way, start, step, Distinct, empty, more, Same, Ahead, Wins, Least, far, climb, sooner, Within, Tree}
use Rattle.harness_meaning.proofs.Order.{same-sym, same_move, ahead-same}
use Rattle.harness_meaning.proofs.Ways.{ends-either}

-- The other end of a record is what it says.
pub ends-other : {a b : ℕ → ℕ} {k u u' v : ℕ} → Ends a b k u v → Ends a b k u' v → u' ≡ u
ends-other (forth p q) (forth p' q') = p' ∙ sym p
ends-other (forth p q) (back p' q') = p' ∙ (sym q ∙ (q' ∙ sym p))
ends-other (back p q) (forth p' q') = p' ∙ (sym q ∙ (q' ∙ sym p))
ends-other (back p q) (back p' q') = p' ∙ sym p

pub far-other : {a b : ℕ → ℕ} {k u v : ℕ} → Ends a b k u v → far a b k v ≡ u
far-other {a} {b} {k} {u} {v} (forth p q) = go (ℕ_discrete v (a k))
  where
    go : Dec (v ≡ a k) → far a b k v ≡ u
    go (yes e) = rw (eq-eqb v (a k) e) (sym q ∙ (e ∙ sym p))
    go (no e) = rw (ne_eqb v (a k) e) (sym p)
far-other {a} {b} {k} {u} {v} (back p q) = rw (eq-eqb v (a k) q) (sym p)

-- Of two lists with nothing in common, and nothing of a third, the one with the smaller least number is ahead, also with the third behind both.
least-ahead : {A B : List ℕ} {i j : ℕ} (C : List ℕ) → Least A i → Least B j → i < j → ((z : ℕ) → Memᴰ z A → Memᴰ z C → ⊥) → Ahead (A ++ C) (B ++ C)
least-ahead {A} {B} {i} {j} C p q l x = record {
  at = i;
  mine = Memᴰ.append_left C p.has;
  yours = λ h. elim (Memᴰ.append_cases B h) [ inl g ↦ omega (arith, q.low i g) | inr g ↦ x i p.has g ];
  below = λ m o. (
    λ h. elim (Memᴰ.append_cases A h) [ inl g ↦ absurd (omega (arith, p.low m g)) | inr g ↦ Memᴰ.append_right B g ],
    λ h. elim (Memᴰ.append_cases B h) [ inl g ↦ absurd (omega (arith, q.low m g)) | inr g ↦ Memᴰ.append_right A g ],
  );
}

wins-base : {A B : List ℕ} {i j : ℕ} (C : List ℕ) → Least A i → Least B j → ((z : ℕ) → Memᴰ z A → Memᴰ z B → ⊥)
    → ((z : ℕ) → Memᴰ z A → Memᴰ z C → ⊥) → ((z : ℕ) → Memᴰ z B → Memᴰ z C → ⊥) → Wins (ltb i j) (A ++ C) (B ++ C)
wins-base {A} {B} {i} {j} C p q x y z = go (ltb i j) refl (ℕ_discrete i j)
  where
    go : (t : Bool) → ltb i j ≡ t → Dec (i ≡ j) → Wins t (A ++ C) (B ++ C)
    go true e d = least-ahead C p q (ltb-true i j e) y
    go false e (yes r) = absurd (x i p.has (rw r q.has))
    go false e (no r) = let o : j < i = omega (arith, ltb-false i j e) in least-ahead C q p o z

wins-same : {A A' B B' : List ℕ} (t : Bool) → Same A A' → Same B B' → Wins t A B → Wins t A' B'
wins-same true e f w = ahead-same e f w
wins-same false e f w = ahead-same f e w

least-cons : {A : List ℕ} {i : ℕ} (k : ℕ) → Least A i → Least (k ∷ A) (min i k)
least-cons {A} {i} k p = record {
  has = go (dec_le i k);
  low = λ z h. elim (Memᴰ.cases_cons h) [ inl q ↦ omega arith | inr g ↦ omega (arith, p.low z g) ];
}
  where
    go : Dec (i ≤ k) → Memᴰ (min i k) (k ∷ A)
    go (yes l) = let q : min i k ≡ i = omega arith in let h : Memᴰ (min i k) A = rw q p.has in Memᴰ.tail h
    go (no l) = let q : min i k ≡ k = omega arith in Memᴰ.head q

pub least-one : (k : ℕ) → Least (k ∷ []) k
least-one k = record { has = Memᴰ.head refl; low = λ z h. elim (Memᴰ.cases_cons h) [ inl q ↦ omega arith | inr g ↦ absurd (Memᴰ.not-nil g) ] }

-- Every record of the list has an end above level n.
abbrev pub High : (ℕ → ℕ) → (ℕ → ℕ) → (ℕ → ℕ) → ℕ → List ℕ → Type 0
High a b lev n A = (z : ℕ) → Memᴰ z A → (x : ℕ) × (y : ℕ) × Ends a b z x y × (n < lev y)

module _ {a b : ℕ → ℕ} {R s d : ℕ} {lev last : ℕ → ℕ} (tr : Tree a b R s d lev last) where
  -- No way is shorter than its end's level.
  pub way-level : {v n : ℕ} {L : List ℕ} → Way a b (Within R) s v L n → n ≤ d → lev v ≤ n
  way-level start l = omega (arith, tr.root)
  way-level {v} (step {u = u} {k = k} w p e) l =
      let h = way-level w (omega arith) in
      omega (arith, h, tr.near k u v p e (omega (arith, h)))

  -- A way to a tag of the next level comes from one of this level.
  pub way-before : {u v k n : ℕ} {L : List ℕ} → Way a b (Within R) s u L n → n ≤ d → Within R k → Ends a b k u v → lev v ≡ suc n → lev u ≡ n
  way-before {u} {v} {k} {n} w l p e q = go (dec_lt (lev u) n)
    where
      go : Dec (lev u < n) → lev u ≡ n
      go (yes h) = absurd (omega (arith, tr.near k u v p e (omega arith)))
      go (no h) = omega (arith, way-level w l)

  -- No end of its records is higher than the way is long, ..
  pub way-low : {u n : ℕ} {L : List ℕ} → Way a b (Within R) s u L n → n ≤ d → (j x y : ℕ) → Memᴰ j L → Ends a b j x y → lev y ≤ n
  way-low start l j x y i e = absurd (Memᴰ.not-nil i)
  way-low (step {u = u} {v = v} {k = k} {n = n} {L = L} w p f) l j x y i e = go (λ m. way-low w (omega arith) j x y m e) (way-level w (omega arith)) (way-level (step w p f) l) (Memᴰ.cases_cons i)
    where
      go : (Memᴰ j L → lev y ≤ n) → lev u ≤ n → lev v ≤ suc n → (j ≡ k) ⊎ Memᴰ j L → lev y ≤ suc n
      go g h h' (inl q) = elim (ends-either (rw q at e) f) [
        | inl r ↦ let z : lev y ≤ n = rw r h in omega arith
        | inr r ↦ rw r h'
      ]
      go g h h' (inr m) = omega (arith, g m)

  -- .. so a record that leads higher is new, ..
  pub way-fresh : {u x y k n : ℕ} {L : List ℕ} → Way a b (Within R) s u L n → n ≤ d → Ends a b k x y → n < lev y → Memᴰ k L → ⊥
  way-fresh {u} {x} {y} {k} w l e h i = omega (arith, way-low w l k x y i e)

  -- .. and a shortest way has none twice.
  pub way-distinct : {v n : ℕ} {L : List ℕ} → Way a b (Within R) s v L n → n ≤ d → lev v ≡ n → Distinct L
  way-distinct start l q = empty
  way-distinct (step {n = n} w p e) l q = let m : n ≤ d = omega arith in more (way-fresh w m e (omega arith)) (way-distinct w m (way-before w m p e q))

  -- The last records make a way of as many records as the level says.
  pub climb-way : (n v : ℕ) → n ≤ d → lev v ≡ n → Way a b (Within R) s v (climb a b last n v) n
  climb-way zero v l q = rw (tr.only v q) start
  climb-way (suc n) v l q = step (climb-way n (far a b (last v) v) (omega arith) (tr.down v n l q)) (tr.within v n l q) (tr.ends v n l q)

  -- Two tags of one level do not share a last record.
  last_apart : (n x y : ℕ) → n < d → lev x ≡ suc n → lev y ≡ suc n → x ≢ y → last x ≡ last y → ⊥
  last_apart n x y l p q d e = elim (ends-either (tr.ends x n l p) (rw (sym e) at (tr.ends y n l q))) [
    | inl h ↦ omega (arith, tr.down y n l q, ap lev h, ap (λ k. lev (far a b k y)) e)
    | inr h ↦ d h
  ]

  -- Neither end of a last record is above its tag.
  last-low : (n x z u v : ℕ) → n < d → lev x ≡ suc n → z ≡ last x → Ends a b z u v → lev v ≤ suc n
  last-low n x z u v l p q e = elim (ends-either (rw q at e) (tr.ends x n l p)) [
    | inl h ↦ omega (arith, tr.down x n l p, ap lev h)
    | inr h ↦ omega (arith, ap lev h)
  ]

  -- Going back in step says which of two ways is ahead: those so far have the records A and B, and go on from x and y.
  pub sooner-wins : (n x y i j : ℕ) (A B : List ℕ) → n ≤ d → lev x ≡ n → lev y ≡ n → Least A i → Least B j → ((z : ℕ) → Memᴰ z A → Memᴰ z B → ⊥)
      → High a b lev n A → High a b lev n B → Wins (sooner a b last n x y i j) (A ++ climb a b last n x) (B ++ climb a b last n y)
  sooner-wins zero x y i j A B l p q f g k u v = wins-base [] f g k (λ z h m. Memᴰ.not-nil m) (λ z h m. Memᴰ.not-nil m)
  sooner-wins (suc n) x y i j A B l p q f g k u v =
      go (λ h. sooner-wins n (far a b (last x) x) (far a b (last y) y) (min i (last x)) (min j (last y)) (last x ∷ A) (last y ∷ B) (omega arith) (tr.down x n l p) (tr.down y n l q)
      (least-cons (last x) f) (least-cons (last y) g) (apart h) (high x A p u) (high y B q v)) (eqb x y) refl
    where
      high : (w : ℕ) (D : List ℕ) → lev w ≡ suc n → High a b lev (suc n) D → High a b lev n (last w ∷ D)
      high w D r m z h = elim (Memᴰ.cases_cons h) [
        | inl e ↦ (far a b (last w) w, w, rw e (tr.ends w n l r), omega arith)
        | inr o ↦ let t = m z o in (t.0, t.1, t.2, omega (arith, t.3))
      ]

      clear : (w : ℕ) (D : List ℕ) → lev w ≡ suc n → High a b lev (suc n) D → (z : ℕ) → z ≡ last w → Memᴰ z D → ⊥
      clear w D r m z e h = let t = m z h in omega (arith, t.3, last-low n w z t.0 t.1 l r e t.2)

      apart : x ≢ y → (z : ℕ) → Memᴰ z (last x ∷ A) → Memᴰ z (last y ∷ B) → ⊥
      apart o z h m = pick (Memᴰ.cases_cons h) (Memᴰ.cases_cons m)
        where
          pick : (z ≡ last x) ⊎ Memᴰ z A → (z ≡ last y) ⊎ Memᴰ z B → ⊥
          pick (inl e) (inl e') = last_apart n x y l p q o (sym e ∙ e')
          pick (inl e) (inr h') = clear x B p v z e h'
          pick (inr h) (inl e') = clear y A q u z e' h
          pick (inr h) (inr h') = k z h h'

      behind : (w : ℕ) (D : List ℕ) → lev w ≡ suc n → High a b lev (suc n) D → (z : ℕ) → Memᴰ z D → Memᴰ z (climb a b last (suc n) w) → ⊥
      behind w D r m z h o = let t = m z h in way-fresh (climb-way (suc n) w l r) l t.2 t.3 o

      go : (x ≢ y → Wins (sooner a b last n (far a b (last x) x) (far a b (last y) y) (min i (last x)) (min j (last y)))
          ((last x ∷ A) ++ climb a b last n (far a b (last x) x)) ((last y ∷ B) ++ climb a b last n (far a b (last y) y)))
          → (t : Bool) → eqb x y ≡ t
          → Wins (cond t (ltb i j) (sooner a b last n (far a b (last x) x) (far a b (last y) y) (min i (last x)) (min j (last y)))) (A ++ climb a b last (suc n) x) (B ++ climb a b last (suc n) y)
      go r true e = let o : x ≡ y = eqb-true x y e in rw o (wins-base (climb a b last (suc n) y) f g k (behind y A q u) (behind y B q v))
      go r false e = wins-same (sooner a b last n (far a b (last x) x) (far a b (last y) y) (min i (last x)) (min j (last y)))
          (same-sym (same_move (last x) A (climb a b last n (far a b (last x) x)))) (same-sym (same_move (last y) B (climb a b last n (far a b (last y) y)))) (r (eqb-false x y e))
