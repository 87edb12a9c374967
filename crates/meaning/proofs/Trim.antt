-- Fewer records entail less, so what could not be spared before a record was taken out cannot be spared after it: going through once is enough. The last number of a
-- rising list that entails is the first k, since all its records stand up to that number. Assumes nothing.
use Prim.Native.Nat.{ℕ, suc, ◌≤◌, ◌<◌}
use native.Mathlib.Omega.{arith}
use native.Mathlib.Decide.{ℕ_discrete, dec_lt}
use mathlib.Core.Path.{◌≡◌, refl, sym, ◌∙◌}
use mathlib.Core.Logic.{◌≢◌, ◌↔◌, inl, inr}
use mathlib.Core.Bool.{Bool, true, false, cond}
use mathlib.Core.List.Memᴰ
use mathlib.Core.List.{List, [], ◌∷◌, ◌++◌, append_assoc, append-nil, Memᴰ}
use lib.Dec.{T}
use Rattle.meaning.specs.Following.{Rec, Follows, Those, Only, Without}
use Rattle.meaning.specs.Reasons.{Above, last_of, FirstAt}
use Rattle.meaning.specs.Trim.{Trimmed, trim}
use Rattle.meaning.specs.Joins.{put}
use Rattle.meaning.proofs.Close.{more_of}
use Rattle.meaning.proofs.Log.{put-hit, put-miss}

-- A set of numbers, as a loop holds it.
module _ {rs : List Rec} {s t : ℕ} where
  pub trim_start : {X : ℕ → Type 0} → Follows (Those rs X) s t → Trimmed rs s t X 0
  trim_start e = record { entails = e; unspared = λ m h. absurd (omega arith) }

  pub trim-drop : {X : ℕ → Type 0} {i : ℕ} → Trimmed rs s t X i → Follows (Those rs (λ n. X n × (n ≢ i))) s t → Trimmed rs s t (λ n. X n × (n ≢ i)) (suc i)
  trim-drop {X} {i} h e = record { entails = e; unspared = λ m l x f. h.unspared m (omega (arith, x.1)) x.0 (more_of (λ k y. (y.0.0, y.1)) f) }

  pub trim-keep : {X : ℕ → Type 0} {i : ℕ} → Trimmed rs s t X i → (X i → Follows (Those rs (λ n. X n × (n ≢ i))) s t → ⊥) → Trimmed rs s t X (suc i)
  trim-keep {X} {i} h e = record { entails = h.entails; unspared = λ m l. go m l (ℕ_discrete m i) }
    where
      go : (m : ℕ) → m < suc i → Dec (m ≡ i) → X m → Follows (Those rs (λ n. X n × (n ≢ m))) s t → ⊥
      go m l (yes p) = rw p e
      go m l (no p) = h.unspared m (omega arith)

-- A set with the same numbers serves as well.
pub trim_same : {rs : List Rec} {s t : ℕ} {X Y : ℕ → Type 0} {i : ℕ} → ((k : ℕ) → X k ↔ Y k) → Trimmed rs s t X i → Trimmed rs s t Y i
trim_same e h = record {
  entails = more_of (λ k. (e k).0) h.entails;
  unspared = λ m l y f. h.unspared m l ((e m).1 y) (more_of (λ k z. ((e k).1 z.0, z.1)) f);
}

-- A list, with an exact test.
module _ (rs : List Rec) (s t : ℕ) (test : List ℕ → Bool) (exact : (L : List ℕ) → (test L ≡ true) ↔ Follows (Only rs L) s t) where
  pub record Result (L : List ℕ) : Type 0 where
    pub entails : Follows (Only rs L) s t
    pub unspared : (m : ℕ) → Memᴰ m L → Follows (Without rs L m) s t → ⊥

  pub trim-list : (kept rest : List ℕ) → Follows (Only rs (kept ++ rest)) s t
      → ((m : ℕ) → Memᴰ m kept → Follows (Without rs (kept ++ rest) m) s t → ⊥) → Result (trim test kept rest)
  trim-list kept [] e u = record { entails = rw append-nil at e; unspared = rw append-nil at u }
  trim-list kept (k ∷ rest) e u = go (λ e' u'. trim-list kept rest e' u') (λ e' u'. trim-list (kept ++ (k ∷ [])) rest e' u') (test (kept ++ rest)) refl
    where
      fewer : (n : ℕ) → Memᴰ n (kept ++ rest) → Memᴰ n (kept ++ (k ∷ rest))
      fewer n i = elim (Memᴰ.append_cases kept i) [ inl h ↦ Memᴰ.append_left (k ∷ rest) h | inr h ↦ Memᴰ.append_right kept (Memᴰ.tail h) ]

      spare : (n : ℕ) → Memᴰ n (kept ++ (k ∷ rest)) × (n ≢ k) → Memᴰ n (kept ++ rest)
      spare n i = elim (Memᴰ.append_cases kept i.0) [
        | inl h ↦ Memᴰ.append_left rest h
        | inr h ↦ Memᴰ.append_right kept (elim (Memᴰ.cases_cons h) [ inl p ↦ absurd (i.1 p) | inr q ↦ q ])
      ]

      needed : (test (kept ++ rest) ≡ false) → (m : ℕ) → Memᴰ m (kept ++ (k ∷ [])) → Follows (Without rs (kept ++ (k ∷ rest)) m) s t → ⊥
      needed q m i f = elim (Memᴰ.append_cases kept i) [
        | inl h ↦ u m h f
        | inr h ↦
            let z : true ≡ false = sym ((exact (kept ++ rest)).1 (more_of (λ n y. spare n (y.0, rw (← Memᴰ.eq_of_singleton h) y.1)) f)) ∙ q in
            let w : ◌≡◌ {A = ℕ} 0 1 = cc in
            omega arith
      ]

      go : (Follows (Only rs (kept ++ rest)) s t → ((m : ℕ) → Memᴰ m kept → Follows (Without rs (kept ++ rest) m) s t → ⊥) → Result (trim test kept rest))
          → (Follows (Only rs (kept ++ (k ∷ []) ++ rest)) s t → ((m : ℕ) → Memᴰ m (kept ++ (k ∷ [])) → Follows (Without rs (kept ++ (k ∷ []) ++ rest) m) s t → ⊥) → Result (trim test (kept ++ (k ∷ [])) rest))
          → (b : Bool) → test (kept ++ rest) ≡ b → Result (cond b (trim test kept rest) (trim test (kept ++ (k ∷ [])) rest))
      go f g true q = f ((exact (kept ++ rest)).0 q) (λ m i f. u m i (more_of (λ n y. (fewer n y.0, y.1)) f))
      go f g false q = g (rw append_assoc e) (rw append_assoc (needed q))

-- The last number of a reason is the first front that entails.
pub le-last : (m : ℕ) (L : List ℕ) → Above m L → m ≤ last_of m L
le-last m [] a = omega arith
le-last m (k ∷ L) a = omega (arith, le-last k L a.1)

pub member-le-last : (m : ℕ) (L : List ℕ) → Above m L → (x : ℕ) → Memᴰ x L → x ≤ last_of m L
member-le-last m [] a x i = absurd (Memᴰ.not-nil i)
member-le-last m (k ∷ L) a x i = elim (Memᴰ.cases_cons i) [
  | inl p ↦ omega (arith, le-last k L a.1)
  | inr q ↦ member-le-last k L a.1 x q
]

pub last-le : (m k : ℕ) (L : List ℕ) → m ≤ k → ((n : ℕ) → Memᴰ n L → n ≤ k) → last_of m L ≤ k
last-le m k [] h u = h
last-le m k (n ∷ L) h u = last-le n k L (u n (Memᴰ.head refl)) (λ x i. u x (Memᴰ.tail i))

pub last-is-first : (rs : List Rec) (s t k : ℕ) (L : List ℕ) → FirstAt rs s t k → Above 0 L → ((n : ℕ) → Memᴰ n L → n ≤ k)
    → Follows (Only rs L) s t → last_of 0 L ≡ k
last-is-first rs s t k L f a u e = go (dec_lt (last_of 0 L) k)
  where
    go : Dec (last_of 0 L < k) → last_of 0 L ≡ k
    go (yes l) = absurd (f.before (last_of 0 L) (omega arith) (more_of (member-le-last 0 L a) e))
    go (no l) = omega (arith, last-le 0 k L (omega arith) u)

-- A set held as a table of bits, with one bit cleared.
pub drop-bit : (x : ℕ → Bool) (i n : ℕ) → (T (x n) × (n ≢ i)) ↔ T (put i false x n)
drop-bit x i n = (λ h. rw (put-miss i false x n h.1) h.0, λ t. go t (ℕ_discrete n i))
  where
    go : T (put i false x n) → Dec (n ≡ i) → T (x n) × (n ≢ i)
    go t (yes q) = absurd (rw (q, put-hit i false x) at t)
    go t (no q) = (rw (put-miss i false x n q) at t, q)
