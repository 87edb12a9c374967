-- Parts whose halves are in the list too, down to the symbols; and what is met of a curried term is so. Assumes nothing.
use Prim.Native.Nat.{ℕ, suc, ◌+◌, ◌-◌, ◌<◌}
use native.Mathlib.Omega.{arith}
use mathlib.Core.Path.{◌≡◌, refl}
use mathlib.Core.Logic.{◌⊎◌, inl, inr}
use mathlib.Core.Bool.{Bool, true, false, cond}
use mathlib.Core.List.Memᴰ
use mathlib.Core.List.{List, [], Memᴰ}
use lib.Dec.{T, ltb, ltb→lt, lt→ltb}
use lib.ListN.{get_or}
use Rattle.script_terms.specs.Flat.{Part, symbol, applied, add, met, place, tag_of}
use Rattle.script_terms.proofs.Lists.{Grown, grown-in, grown-on, add-in, add-grown, add-cases, met-grown, place_found}

pub data Known (S : ℕ) (l : List Part) : Part → Type 0 where
  leaf : {f : ℕ} → f < S → Known S l (symbol f)
  node : {p q : Part} → Memᴰ (applied p q) l → Known S l p → Known S l q → Known S l (applied p q)

pub known_grown : {S : ℕ} {l l' : List Part} {p : Part} → Grown l l' → Known S l p → Known S l' p
known_grown g (leaf h) = leaf h
known_grown g (node i u v) = node (grown-in g i) (known_grown g u) (known_grown g v)

-- The part that a tag names.
pub name_of : ℕ → List Part → ℕ → Part
name_of S l i = cond (ltb i S) (symbol i) (get_or l (i - S) (symbol 0))

pub known-named : {S : ℕ} {l : List Part} {p : Part} → Known S l p → name_of S l (tag_of S l p) ≡ p
unfolding name_of
known-named {S} {l} (leaf {f = f} h) = go (ltb f S) (lt→ltb f S h)
  where
    go : (b : Bool) → T b → cond b (symbol f) (get_or l (f - S) (symbol 0)) ≡ symbol f
    go true t = refl
    go false t = absurd t
known-named {S} {l} (node {p = p} {q = q} i u v) = go (ltb (S + place l (applied p q)) S) refl
  where
    back : S + place l (applied p q) - S ≡ place l (applied p q)
    back = omega arith

    go : (b : Bool) → ltb (S + place l (applied p q)) S ≡ b → cond b (symbol (S + place l (applied p q))) (get_or l (S + place l (applied p q) - S) (symbol 0)) ≡ applied p q
    go true e = let h : S + place l (applied p q) < S = ltb→lt _ _ (rw e tt) in absurd (omega arith)
    go false e = rw back (place_found l (applied p q) (symbol 0) i)

-- The parts of a term over S symbols, where symbol f takes ar f arguments: n are still missing, and one that misses none is of the set.
pub data Within (S : ℕ) (ar : ℕ → ℕ) (In : Part → Type 0) : Part → ℕ → Type 0 where
  bare : {f n : ℕ} → f < S → ar f ≡ n → (n ≡ 0 → In (symbol f)) → Within S ar In (symbol f) n
  with : {p q : Part} {n : ℕ} → Within S ar In p (suc n) → Within S ar In q 0 → (n ≡ 0 → In (applied p q)) → Within S ar In (applied p q) n

pub within_in : {S : ℕ} {ar : ℕ → ℕ} {In : Part → Type 0} {p : Part} → Within S ar In p 0 → In p
within_in (bare h e i) = i refl
within_in (with u v i) = i refl

-- A list whose every member is compound, known and within.
pub data Entry (S : ℕ) (ar : ℕ → ℕ) (In : Part → Type 0) (l : List Part) : Part → Type 0 where
  entry : {p q : Part} {n : ℕ} → Known S l p → Known S l q → Within S ar In (applied p q) n → Entry S ar In l (applied p q)

abbrev pub Filed : ℕ → (ℕ → ℕ) → (Part → Type 0) → List Part → Type 0
Filed S ar In l = (p : Part) → Memᴰ p l → Entry S ar In l p

module _ {S : ℕ} {ar : ℕ → ℕ} {In : Part → Type 0} where
  entry-grown : {l l' : List Part} {p : Part} → Grown l l' → Entry S ar In l p → Entry S ar In l' p
  entry-grown g (entry u v w) = entry (known_grown g u) (known_grown g v) w

  pub filed-none : Filed S ar In []
  filed-none p i = absurd (Memᴰ.not-nil i)

  pub met-known : {p : Part} {n : ℕ} (l : List Part) → Within S ar In p n → Known S (met l p) p
  met-known l (bare h e i) = leaf h
  met-known l (with {p = p} {q = q} u v i) =
      let m = met (met l p) q in
      let g = add-grown m (applied p q) in
      node (add-in m (applied p q)) (known_grown (grown-on (met-grown (met l p) q) g) (met-known l u)) (known_grown g (met-known (met l p) v))

  pub met-filed : {p : Part} {n : ℕ} (l : List Part) → Within S ar In p n → Filed S ar In l → Filed S ar In (met l p)
  met-filed l (bare h e i) F = F
  met-filed l (with {p = p} {q = q} {n = n} u v i) F = λ x j. go (met-filed (met l p) v (met-filed l u F)) x (add-cases m (applied p q) j)
    where
      m : List Part
      m = met (met l p) q

      g : Grown m (add m (applied p q))
      g = add-grown m (applied p q)

      new : Entry S ar In (add m (applied p q)) (applied p q)
      new = entry (known_grown (grown-on (met-grown (met l p) q) g) (met-known l u)) (known_grown g (met-known (met l p) v)) (with u v i)

      go : Filed S ar In m → (x : Part) → Memᴰ x m ⊎ (x ≡ applied p q) → Entry S ar In (add m (applied p q)) x
      go before x (inl j) = entry-grown g (before x j)
      go before x (inr e) = rw e new
