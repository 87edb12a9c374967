-- The list of parts: what is in it, how it grows, and that a part is found again by its tag. Assumes nothing.
use Prim.Native.Nat.{suc}
use mathlib.Core.Path.{◌≡◌, refl, sym, ◌∙◌, ap, subst}
use mathlib.Core.Logic.{◌⊎◌, inl, inr}
use mathlib.Core.Bool.{Bool, true, false, cond, ◌&&◌, ◌||◌}
use mathlib.Core.List.Memᴰ
use mathlib.Core.List.{List, [], ◌∷◌, ◌++◌, append_assoc, append-nil, Memᴰ}
use lib.Dec.{T, eqb→eq, eqb_refl}
use lib.ListN.{length, get_or, drop}
use lib.Seq.{drop-append_seam}
use Rattle.script_terms.proofs.Tests.{both}
use Rattle.script_terms.specs.Flat.{Part, symbol, applied, same, has, add, met, place}

pub same-one : (p q : Part) → T (same p q) → p ≡ q
same-one (symbol f) (symbol g) t = ap symbol (eqb→eq f g t)
same-one (symbol f) (applied p q) t = absurd t
same-one (applied p q) (symbol g) t = absurd t
same-one (applied p q) (applied p' q') t =
    let e : p ≡ p' = same-one p p' (both (same p p') (same q q') t).0 in
    let e' : q ≡ q' = same-one q q' (both (same p p') (same q q') t).1 in
    cc

pub same_self : (p : Part) → T (same p p)
same_self (symbol f) = eqb_refl f
same_self (applied p q) = go (same p p) (same q q) (same_self p) (same_self q)
  where
    go : (a b : Bool) → T a → T b → T (a && b)
    go true true t u = tt
    go true false t u = u
    go false b t u = absurd t

-- One more part is in, what was in stays, and nothing else comes.
has_in : (l : List Part) (p : Part) → T (has l p) → Memᴰ p l
has_in [] p t = absurd t
has_in (x ∷ l) p t = go (same x p) refl (has_in l p) t
  where
    go : (b : Bool) → same x p ≡ b → (T (has l p) → Memᴰ p l) → T (b || has l p) → Memᴰ p (x ∷ l)
    go true e f t = Memᴰ.head (sym (same-one x p (rw e tt)))
    go false e f t = Memᴰ.tail (f t)

-- A list with more behind it.
pub record Grown (l l' : List Part) : Type 0 where
  pub behind : List Part
  pub is : l' ≡ l ++ behind

pub grown-same : (l : List Part) → Grown l l
grown-same l = record { behind = []; is = sym (append-nil l) }

pub grown-on : {l l' l'' : List Part} → Grown l l' → Grown l' l'' → Grown l l''
grown-on {l} g h = record { behind = g.behind ++ h.behind; is = rw (h.is, g.is) (append_assoc l g.behind h.behind) }

pub grown-in : {x : Part} {l l' : List Part} → Grown l l' → Memᴰ x l → Memᴰ x l'
grown-in g i = rw g.is (Memᴰ.append_left g.behind i)

-- What is new stands behind what was there.
pub grown-new : {l l' : List Part} (g : Grown l l') → drop (length l) l' ≡ g.behind
grown-new {l} g = rw g.is (drop-append_seam l g.behind)

pub grown-cases : {x : Part} {l l' : List Part} → Grown l l' → Memᴰ x l' → Memᴰ x l ⊎ Memᴰ x (drop (length l) l')
grown-cases {x} {l} {l'} g i = go (Memᴰ.append_cases l (rw g.is at i))
  where
    go : Memᴰ x l ⊎ Memᴰ x g.behind → Memᴰ x l ⊎ Memᴰ x (drop (length l) l')
    go (inl j) = inl j
    go (inr j) = inr (rw (grown-new g) j)

pub new_in : {x : Part} {l l' : List Part} → Grown l l' → Memᴰ x (drop (length l) l') → Memᴰ x l'
new_in {x} {l} g i = rw g.is (Memᴰ.append_right l (rw (grown-new g) at i))

pub add-in : (l : List Part) (p : Part) → Memᴰ p (add l p)
add-in l p = go (has l p) refl
  where
    go : (b : Bool) → has l p ≡ b → Memᴰ p (cond b l (l ++ p ∷ []))
    go true e = has_in l p (rw e tt)
    go false e = Memᴰ.append_right l (Memᴰ.head refl)

pub add-grown : (l : List Part) (p : Part) → Grown l (add l p)
add-grown l p = go (has l p)
  where
    go : (b : Bool) → Grown l (cond b l (l ++ p ∷ []))
    go true = grown-same l
    go false = record { behind = p ∷ []; is = refl }

pub add-cases : (l : List Part) (p : Part) {x : Part} → Memᴰ x (add l p) → Memᴰ x l ⊎ (x ≡ p)
add-cases l p {x} = go (has l p)
  where
    last : Memᴰ x l ⊎ Memᴰ x (p ∷ []) → Memᴰ x l ⊎ (x ≡ p)
    last (inl i) = inl i
    last (inr i) = inr (Memᴰ.eq_of_singleton i)

    go : (b : Bool) → Memᴰ x (cond b l (l ++ p ∷ [])) → Memᴰ x l ⊎ (x ≡ p)
    go true i = inl i
    go false i = last (Memᴰ.append_cases l i)

pub met-grown : (l : List Part) (p : Part) → Grown l (met l p)
met-grown l (symbol f) = grown-same l
met-grown l (applied p q) = grown-on (met-grown l p) (grown-on (met-grown (met l p) q) (add-grown (met (met l p) q) (applied p q)))

-- The part at a part's place is that part.
pub place_found : (l : List Part) (p d : Part) → Memᴰ p l → get_or l (place l p) d ≡ p
place_found [] p d i = absurd (Memᴰ.not-nil i)
place_found (x ∷ l) p d i = go (same x p) refl (Memᴰ.cases_cons i) (place_found l p d)
  where
    go : (b : Bool) → same x p ≡ b → (p ≡ x) ⊎ Memᴰ p l → (Memᴰ p l → get_or l (place l p) d ≡ p) → get_or (x ∷ l) (cond b 0 (suc (place l p))) d ≡ p
    go true e h f = same-one x p (rw e tt)
    go false e (inl h) f = absurd (subst (λ b. T b) (ap (λ z. same z p) h ∙ e) (same_self p))
    go false e (inr h) f = f h
