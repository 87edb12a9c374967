-- Parts by their numbers: a part is there exactly if its halves' numbers are, and one more part moves none. Assumes nothing.
use Prim.Native.Nat.{ℕ, zero, suc, ◌<◌}
use native.Mathlib.Omega.{arith}
use native.Mathlib.Decide.{ℕ_discrete}
use mathlib.Core.Path.{◌≡◌, refl, sym, ◌∙◌, ap, subst}
use mathlib.Core.Logic.{◌⊎◌, inl, inr}
use mathlib.Core.Bool.{Bool, true, false, cond, ◌||◌}
use mathlib.Core.List.Memᴰ
use mathlib.Core.List.{List, [], ◌∷◌, ◌++◌, map, map-append, Memᴰ}
use lib.Dec.{T}
use lib.ListN.{length, get_or, length-append, get_or-append, get_or-map}
use lib.Seq.{get_or-append_seam}
use Rattle.script_terms.proofs.Tests.{map_same}
use Rattle.script_terms.specs.Flat.{Part, symbol, applied, same, has, place}
use Rattle.script_terms.proofs.Lists.{Grown, same_self, place_found, add-in}
use Rattle.script_terms.proofs.Known.{Known, node, known_grown}
use Rattle.script_meaning.proofs.Laws.{tag_one, tag-grown, place-below}
use Rattle.script_shelf.specs.Shelf.{Halves, left_half, right_half, number_of, halves_of, Stand, Standing}

pub one_more : (l : List Part) (x : Part) → Grown l (l ++ x ∷ [])
one_more l x = record { behind = x ∷ []; is = refl }

mem-at : (l : List Part) (i : ℕ) (d : Part) → i < length l → Memᴰ (get_or l i d) l
mem-at [] i d h = absurd (omega arith)
mem-at (x ∷ l) zero d h = Memᴰ.head refl
mem-at (x ∷ l) (suc i) d h = Memᴰ.tail (mem-at l i d (omega arith))

pub has_of : (l : List Part) {x : Part} → Memᴰ x l → has l x ≡ true
has_of [] i = absurd (Memᴰ.not-nil i)
has_of (y ∷ l) {x} i = go (same y x) refl (Memᴰ.cases_cons i) (has_of l)
  where
    go : (b : Bool) → same y x ≡ b → (x ≡ y) ⊎ Memᴰ x l → (Memᴰ x l → has l x ≡ true) → b || has l x ≡ true
    go true e h f = refl
    go false e (inl h) f = absurd (subst (λ b. T b) (ap (λ z. same z x) h ∙ e) (same_self x))
    go false e (inr h) f = f h

pub of-has : (l : List Part) (x : Part) → has l x ≡ true → Memᴰ x l
of-has l x e = rw e at (add-in l x)

pub place-new : (l : List Part) (x : Part) → has l x ≡ false → place (l ++ x ∷ []) x ≡ length l
place-new [] x e = go (same x x) (same_self x)
  where
    go : (b : Bool) → T b → ◌≡◌ {A = ℕ} (cond b 0 1) 0
    go true t = refl
    go false t = absurd t
place-new (y ∷ l) x e = go (same y x) e (place-new l x)
  where
    go : (b : Bool) → b || has l x ≡ false → (has l x ≡ false → place (l ++ x ∷ []) x ≡ length l) → cond b 0 (suc (place (l ++ x ∷ []) x)) ≡ suc (length l)
    go true e f = let z : ◌≡◌ {A = ℕ} 0 1 = cc in absurd (omega arith)
    go false e f = ap suc (f e)

record Made (l : List Part) (x : Part) : Type 0 where
  left : Part
  right : Part
  is : x ≡ applied left right
  left-known : Known 1001 l left
  right-known : Known 1001 l right

module _ {l : List Part} (S : Standing l) where
  -- The same by membership.
  stand_of : {x : Part} → Memᴰ x l → Made l x
  stand_of {x} i = let s = S (place l x) (place-below l i) in record { left = s.left; right = s.right; is = sym (place_found l x (symbol 0) i) ∙ s.is; left-known = s.left-known; right-known = s.right-known }

  known_at : (i : ℕ) → i < length l → Known 1001 l (get_or l i (symbol 0))
  known_at i h = let s = S i h in rw s.is (node (subst (λ x. Memᴰ x l) s.is (mem-at l i (symbol 0) h)) s.left-known s.right-known)

  -- The halves' numbers in their columns.
  pub left_at : (k : ℕ) → get_or (map (λ h. h.left) (halves_of l)) k 0 ≡ number_of l (left_half (get_or l k (symbol 0)))
  unfolding halves_of
  left_at k = get_or-map (λ h. h.left) (halves_of l) k (record { left = 0; right = 0 }) ∙ ap (λ (h : Halves). h.left) (get_or-map (λ p. record { left = number_of l (left_half p); right = number_of l (right_half p) }) l k (symbol 0))

  pub right-at : (k : ℕ) → get_or (map (λ h. h.right) (halves_of l)) k 0 ≡ number_of l (right_half (get_or l k (symbol 0)))
  unfolding halves_of
  right-at k = get_or-map (λ h. h.right) (halves_of l) k (record { left = 0; right = 0 }) ∙ ap (λ (h : Halves). h.right) (get_or-map (λ p. record { left = number_of l (left_half p); right = number_of l (right_half p) }) l k (symbol 0))

  module _ {p q : Part} (P : Known 1001 l p) (Q : Known 1001 l q) where
    -- Whatever has the halves' numbers is the part, and stands at its place.
    pub pair-there : (k : ℕ) → k < length l → get_or (map (λ h. h.left) (halves_of l)) k 0 ≡ number_of l p → get_or (map (λ h. h.right) (halves_of l)) k 0 ≡ number_of l q → (has l (applied p q) ≡ true) × (place l (applied p q) ≡ k)
    pair-there k h e f =
        let s = S k h in
        let u : s.left ≡ p = tag_one s.left-known P (ap (λ x. number_of l (left_half x)) (sym s.is) ∙ sym (left_at k) ∙ e) in
        let v : s.right ≡ q = tag_one s.right-known Q (ap (λ x. number_of l (right_half x)) (sym s.is) ∙ sym (right-at k) ∙ f) in
        let z : applied s.left s.right ≡ applied p q = cc in
        (has_of l (subst (λ x. Memᴰ x l) (s.is ∙ z) (mem-at l k (symbol 0) h)), ap (place l) (sym z) ∙ s.once)

    -- And it is there by them.
    pub there-pair : has l (applied p q) ≡ true → let k = place l (applied p q) in (k < length l) × (get_or (map (λ h. h.left) (halves_of l)) k 0 ≡ number_of l p) × (get_or (map (λ h. h.right) (halves_of l)) k 0 ≡ number_of l q)
    there-pair e =
        let i = of-has l (applied p q) e in
        let z = place_found l (applied p q) (symbol 0) i in
        (place-below l i, left_at (place l (applied p q)) ∙ ap (λ x. number_of l (left_half x)) z, right-at (place l (applied p q)) ∙ ap (λ x. number_of l (right_half x)) z)

    -- One part more.
    pub halves-more : halves_of (l ++ applied p q ∷ []) ≡ halves_of l ++ record { left = number_of l p; right = number_of l q } ∷ []
    unfolding halves_of
    halves-more = map-append _ l (applied p q ∷ []) ∙ rw (map_same (λ x. record { left = number_of (l ++ applied p q ∷ []) (left_half x); right = number_of (l ++ applied p q ∷ []) (right_half x) }) (λ x. record { left = number_of l (left_half x); right = number_of l (right_half x) }) l one, tag-grown (one_more l (applied p q)) P, tag-grown (one_more l (applied p q)) Q)
      where
        one : (x : Part) → Memᴰ x l → ◌≡◌ {A = Halves} (record { left = number_of (l ++ applied p q ∷ []) (left_half x); right = number_of (l ++ applied p q ∷ []) (right_half x) }) (record { left = number_of l (left_half x); right = number_of l (right_half x) })
        one x i = let s = stand_of i in rw (s.is, tag-grown (one_more l (applied p q)) s.left-known, tag-grown (one_more l (applied p q)) s.right-known)

    pub standing-more : has l (applied p q) ≡ false → Standing (l ++ applied p q ∷ [])
    standing-more e i h = go (ℕ_discrete i (length l))
      where
        g : Grown l (l ++ applied p q ∷ [])
        g = one_more l (applied p q)

        old : i < length l → Stand (l ++ applied p q ∷ []) i
        old m =
            let s = S i m in
            let k : Known 1001 l (applied s.left s.right) = subst (λ x. Known 1001 l x) s.is (known_at i m) in
            let t = tag-grown g k in
            let o : place l (applied s.left s.right) ≡ i = s.once in
            record { left = s.left; right = s.right; is = get_or-append l (applied p q ∷ []) (symbol 0) i m ∙ s.is; once = omega arith; left-known = known_grown g s.left-known; right-known = known_grown g s.right-known }

        new : i ≡ length l → Stand (l ++ applied p q ∷ []) i
        new z = record { left = p; right = q; is = rw z (get_or-append_seam l (applied p q) [] (symbol 0)); once = place-new l (applied p q) e ∙ sym z; left-known = known_grown g P; right-known = known_grown g Q }

        go : Dec (i ≡ length l) → Stand (l ++ applied p q ∷ []) i
        go (yes z) = new z
        go (no d) = old (omega (arith, length-append l (applied p q ∷ [])))
