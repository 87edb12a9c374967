-- The two orders. Of equally long rising lists one is smaller by the first differing number exactly if it has the smallest number that only one of the two has; and that is
-- an order of sets that stays when a new number is added to both. Assumes nothing.
use Prim.Native.Nat.{ℕ, ◌≤◌, ◌<◌}
use native.Mathlib.Omega.{arith}
use native.Mathlib.Decide.{ℕ_discrete, dec_lt}
use mathlib.Core.Path.{◌≡◌, refl, sym, ◌∙◌, ap₂}
use mathlib.Core.Logic.{◌⊎◌, inl, inr}
use mathlib.Core.List.Memᴰ
use mathlib.Core.List.{List, [], ◌∷◌, ◌++◌, Memᴰ}
use lib.ListN.{length}
use Rattle.meaning.specs.Reasons.{Above}
use Rattle.meaning.proofs.Rising.{above-all, take_out}
use Rattle.meaning.proofs.Short.{dec_among}
use Rattle.harness_meaning.specs.Harness.{Smaller, differ, agree}
use Rattle.harness_meaning.specs.Search.{Distinct, empty, more, Same, Ahead, NotAfter}

-- Smaller is a strict order of lists, ..
smaller-apart : {L M : List ℕ} → Smaller L M → L ≡ M → ⊥
smaller-apart (differ {k = k} {m = m} l) e = let q : k ≡ m = cc in omega arith
smaller-apart (agree {L = L} {M = M} h) e = let q : L ≡ M = cc in smaller-apart h q

pub smaller-not : {L : List ℕ} → Smaller L L → ⊥
smaller-not h = smaller-apart h refl

pub smaller-trans : {L M K : List ℕ} → Smaller L M → Smaller M K → Smaller L K
smaller-trans (differ {k = k} l) (differ {m = n} l') = let o : k < n = omega arith in differ o
smaller-trans (differ l) (agree h) = differ l
smaller-trans (agree h) (differ l) = differ l
smaller-trans (agree h) (agree h') = agree (smaller-trans h h')

pub smaller-asym : {L M : List ℕ} → Smaller L M → Smaller M L → ⊥
smaller-asym h h' = smaller-not (smaller-trans h h')

-- .. and one of two equally long ones is smaller, or they are one.
pub smaller-total : (L M : List ℕ) → length L ≡ length M → (M ≡ L) ⊎ (Smaller L M ⊎ Smaller M L)
smaller-total [] [] e = inl refl
smaller-total [] (m ∷ M) e = absurd (omega arith)
smaller-total (k ∷ L) [] e = absurd (omega arith)
smaller-total (k ∷ L) (m ∷ M) e = go (dec_lt k m) (dec_lt m k) (smaller-total L M (omega arith))
  where
    go : Dec (k < m) → Dec (m < k) → (M ≡ L) ⊎ (Smaller L M ⊎ Smaller M L) → (m ∷ M ≡ k ∷ L) ⊎ (Smaller (k ∷ L) (m ∷ M) ⊎ Smaller (m ∷ M) (k ∷ L))
    go (yes l) d r = inr (inl (differ l))
    go (no l) (yes l') r = inr (inr (differ l'))
    go (no l) (no l') (inl q) = let p : m ≡ k = omega arith in inl (ap₂ ◌∷◌ p q)
    go (no l) (no l') (inr (inl h)) = let p : m ≡ k = omega arith in inr (inl (rw p (agree h)))
    go (no l) (no l') (inr (inr h)) = let p : m ≡ k = omega arith in inr (inr (rw p (agree h)))

-- Sets.
pub same_refl : {A : List ℕ} → Same A A
same_refl j = (λ i. i, λ i. i)

pub same-sym : {A B : List ℕ} → Same A B → Same B A
same-sym e j = ((e j).1, (e j).0)

pub same-trans : {A B C : List ℕ} → Same A B → Same B C → Same A C
same-trans e f j = (λ i. (f j).0 ((e j).0 i), λ i. (e j).1 ((f j).1 i))

pub same-cons : {A B : List ℕ} (k : ℕ) → Same A B → Same (k ∷ A) (k ∷ B)
same-cons k e j = (
  λ i. elim (Memᴰ.cases_cons i) [ inl q ↦ Memᴰ.head q | inr h ↦ Memᴰ.tail ((e j).0 h) ],
  λ i. elim (Memᴰ.cases_cons i) [ inl q ↦ Memᴰ.head q | inr h ↦ Memᴰ.tail ((e j).1 h) ],
)

-- A number may stand anywhere.
pub same_move : (k : ℕ) (A C : List ℕ) → Same (A ++ (k ∷ C)) ((k ∷ A) ++ C)
same_move k A C j = (
  λ i. elim (Memᴰ.append_cases A i) [
    | inl h ↦ Memᴰ.tail (Memᴰ.append_left C h)
    | inr h ↦ elim (Memᴰ.cases_cons h) [ inl q ↦ Memᴰ.head q | inr g ↦ Memᴰ.tail (Memᴰ.append_right A g) ]
  ],
  λ i. elim (Memᴰ.cases_cons i) [
    | inl q ↦ Memᴰ.append_right A (Memᴰ.head q)
    | inr h ↦ elim (Memᴰ.append_cases A h) [ inl g ↦ Memᴰ.append_left (k ∷ C) g | inr g ↦ Memᴰ.append_right A (Memᴰ.tail g) ]
  ],
)

-- Being ahead is a matter of sets.
pub ahead-same : {A A' B B' : List ℕ} → Same A A' → Same B B' → Ahead A B → Ahead A' B'
ahead-same e f h = record {
  at = h.at;
  mine = (e h.at).0 h.mine;
  yours = λ i. h.yours ((f h.at).1 i);
  below = λ j l. (λ i. (f j).0 ((h.below j l).0 ((e j).1 i)), λ i. (e j).0 ((h.below j l).1 ((f j).1 i)));
}

pub ahead-trans : {A B C : List ℕ} → Ahead A B → Ahead B C → Ahead A C
ahead-trans {A} {B} {C} h g = go (dec_lt h.at g.at) (dec_lt g.at h.at)
  where
    go : Dec (h.at < g.at) → Dec (g.at < h.at) → Ahead A C
    go (yes l) d = record {
      at = h.at;
      mine = h.mine;
      yours = λ i. h.yours ((g.below h.at l).1 i);
      below = λ j o. (λ i. (g.below j (omega arith)).0 ((h.below j o).0 i), λ i. (h.below j o).1 ((g.below j (omega arith)).1 i));
    }
    go (no l) (yes l') = record {
      at = g.at;
      mine = (h.below g.at l').1 g.mine;
      yours = g.yours;
      below = λ j o. (λ i. (g.below j o).0 ((h.below j (omega arith)).0 i), λ i. (h.below j (omega arith)).1 ((g.below j o).1 i));
    }
    go (no l) (no l') = let q : h.at ≡ g.at = omega arith in absurd (h.yours (rw q g.mine))

pub ahead-not : {A B : List ℕ} → Ahead A B → Same A B → ⊥
ahead-not h e = h.yours ((e h.at).0 h.mine)

pub after-refl : {A : List ℕ} → NotAfter A A
after-refl = inl same_refl

pub after-trans : {A B C : List ℕ} → NotAfter A B → NotAfter B C → NotAfter A C
after-trans (inl e) (inl f) = inl (same-trans e f)
after-trans (inl e) (inr g) = inr (ahead-same (same-sym e) same_refl g)
after-trans (inr h) (inl f) = inr (ahead-same same_refl f h)
after-trans (inr h) (inr g) = inr (ahead-trans h g)

-- Substructure: the same new number on both sides changes nothing.
pub ahead-cons : {A B : List ℕ} (k : ℕ) → (Memᴰ k A → ⊥) → (Memᴰ k B → ⊥) → Ahead A B → Ahead (k ∷ A) (k ∷ B)
ahead-cons {A} {B} k x y h = record {
  at = h.at;
  mine = Memᴰ.tail h.mine;
  yours = λ i. elim (Memᴰ.cases_cons i) [ inl q ↦ x (rw q at h.mine) | inr g ↦ h.yours g ];
  below = λ j l. (
    λ i. elim (Memᴰ.cases_cons i) [ inl q ↦ Memᴰ.head q | inr g ↦ Memᴰ.tail ((h.below j l).0 g) ],
    λ i. elim (Memᴰ.cases_cons i) [ inl q ↦ Memᴰ.head q | inr g ↦ Memᴰ.tail ((h.below j l).1 g) ],
  );
}

pub after-cons : {A B : List ℕ} (k : ℕ) → (Memᴰ k A → ⊥) → (Memᴰ k B → ⊥) → NotAfter A B → NotAfter (k ∷ A) (k ∷ B)
after-cons k x y (inl e) = inl (same-cons k e)
after-cons k x y (inr h) = inr (ahead-cons k x y h)

-- Rising lists: the same numbers make the same list, ..
pub rising-same : (m : ℕ) (L M : List ℕ) → Above m L → Above m M → Same L M → M ≡ L
rising-same m [] [] u v e = refl
rising-same m [] (x ∷ M) u v e = absurd (Memᴰ.not-nil ((e x).1 (Memᴰ.head refl)))
rising-same m (k ∷ L) [] u v e = absurd (Memᴰ.not-nil ((e k).0 (Memᴰ.head refl)))
rising-same m (k ∷ L) (x ∷ M) u v e = go (λ w f. rising-same k L M u.1 w f) (Memᴰ.cases_cons ((e k).0 (Memᴰ.head refl))) (Memᴰ.cases_cons ((e x).1 (Memᴰ.head refl)))
  where
    rest : k ≡ x → Same L M
    rest q j = (
      λ i. elim (Memᴰ.cases_cons ((e j).0 (Memᴰ.tail i))) [ inl p ↦ absurd (omega (arith, above-all k L u.1 j i)) | inr h ↦ h ],
      λ i. elim (Memᴰ.cases_cons ((e j).1 (Memᴰ.tail i))) [ inl p ↦ absurd (omega (arith, above-all x M v.1 j i)) | inr h ↦ h ],
    )

    go : (Above k M → Same L M → M ≡ L) → (k ≡ x) ⊎ Memᴰ k M → (x ≡ k) ⊎ Memᴰ x L → x ∷ M ≡ k ∷ L
    go f (inl q) r = ap₂ ◌∷◌ (sym q) (f (rw q v.1) (rest q))
    go f (inr h) (inl p) = absurd (omega (arith, above-all x M v.1 k h))
    go f (inr h) (inr g) = absurd (omega (arith, above-all x M v.1 k h, above-all k L u.1 x g))

-- .. and of two that are equally long the one that is ahead is smaller ..
pub ahead-smaller : (m : ℕ) (L M : List ℕ) → Above m L → Above m M → length L ≡ length M → Ahead L M → Smaller L M
ahead-smaller m [] M u v e h = absurd (Memᴰ.not-nil h.mine)
ahead-smaller m (k ∷ L) [] u v e h = absurd (omega arith)
ahead-smaller m (k ∷ L) (x ∷ M) u v e h = go (λ w f. ahead-smaller k L M u.1 w (omega arith) f) (dec_lt k x) (ℕ_discrete k x)
  where
    mine-high : k ≤ h.at
    mine-high = elim (Memᴰ.cases_cons h.mine) [ inl q ↦ omega arith | inr i ↦ omega (arith, above-all k L u.1 h.at i) ]

    tails : k ≡ x → Ahead L M
    tails q = record {
      at = h.at;
      mine = elim (Memᴰ.cases_cons h.mine) [ inl p ↦ absurd (h.yours (Memᴰ.head (p ∙ q))) | inr i ↦ i ];
      yours = λ i. h.yours (Memᴰ.tail i);
      below = λ j l. (
        λ i. elim (Memᴰ.cases_cons ((h.below j l).0 (Memᴰ.tail i))) [ inl p ↦ absurd (omega (arith, above-all k L u.1 j i)) | inr g ↦ g ],
        λ i. elim (Memᴰ.cases_cons ((h.below j l).1 (Memᴰ.tail i))) [ inl p ↦ absurd (omega (arith, above-all x M v.1 j i)) | inr g ↦ g ],
      );
    }

    go : (Above k M → Ahead L M → Smaller L M) → Dec (k < x) → Dec (k ≡ x) → Smaller (k ∷ L) (x ∷ M)
    go f (yes l) d = differ l
    go f (no l) (yes q) = let r : Smaller L M = f (rw q v.1) (tails q) in rw q (agree r)
    go f (no l) (no q) = elim (Memᴰ.cases_cons ((h.below x (omega (arith, mine-high))).1 (Memᴰ.head refl))) [
      | inl p ↦ absurd (q (sym p))
      | inr i ↦ absurd (omega (arith, above-all k L u.1 x i))
    ]

-- .. and the other way about.
pub smaller-ahead : {L M : List ℕ} (m : ℕ) → Above m L → Above m M → Smaller L M → Ahead L M
smaller-ahead m u v (differ {k = k} {m = x} {L = L} {M = M} l) = record {
  at = k;
  mine = Memᴰ.head refl;
  yours = λ i. elim (Memᴰ.cases_cons i) [ inl q ↦ omega arith | inr h ↦ omega (arith, above-all x M v.1 k h) ];
  below = λ j o. (
    λ i. elim (Memᴰ.cases_cons i) [ inl q ↦ absurd (omega arith) | inr h ↦ absurd (omega (arith, above-all k L u.1 j h)) ],
    λ i. elim (Memᴰ.cases_cons i) [ inl q ↦ absurd (omega arith) | inr h ↦ absurd (omega (arith, above-all x M v.1 j h)) ],
  );
}
smaller-ahead m u v (agree {k = k} {L = L} {M = M} h) =
    ahead-cons k (λ i. omega (arith, above-all k L u.1 k i)) (λ i. omega (arith, above-all k M v.1 k i)) (smaller-ahead k u.1 v.1 h)

-- A list with no number twice is no longer than one that has its numbers, ..
pub rising-distinct : (m : ℕ) (L : List ℕ) → Above m L → Distinct L
rising-distinct m [] u = empty
rising-distinct m (k ∷ L) u = more (λ (i : Memᴰ k L). omega (arith, above-all k L u.1 k i)) (rising-distinct k L u.1)

pub distinct-short : {L : List ℕ} (X : List ℕ) → Distinct L → ((n : ℕ) → Memᴰ n L → Memᴰ n X) → length L ≤ length X
distinct-short X empty h = omega arith
distinct-short X (more {k = k} {L = L} d e) h =
    let r = take_out k X (h k (Memᴰ.head refl)) in
    let l : length L ≤ length r.0 = distinct-short r.0 e (λ n i. r.2 n (λ q. d (rw q at i)) (h n (Memᴰ.tail i))) in
    omega (arith, r.1)

-- .. and has all of them if it is as long.
pub distinct-all : {L X : List ℕ} → Distinct L → ((n : ℕ) → Memᴰ n L → Memᴰ n X) → length L ≡ length X → Same L X
distinct-all {L} {X} d h e n = (h n, λ i. go i (dec_among L n))
  where
    go : Memᴰ n X → Dec (Memᴰ n L) → Memᴰ n L
    go i (yes j) = j
    go i (no j) = absurd (omega (arith, distinct-short X (more j d) (λ z g. elim (Memᴰ.cases_cons g) [ inl q ↦ rw q i | inr f ↦ h z f ])))
