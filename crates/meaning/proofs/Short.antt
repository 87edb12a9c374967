-- The log of the list's own closure entails again, by the records that it used, so a list of which none can be spared has only those; they are at most two for each join, and
-- there are as many joins as tags less classes. So it has at most 2(N-C) numbers, and the other points of a reason make that one. Assumes nothing.
use Prim.Native.Nat.{ℕ, zero, suc, ◌≤◌, ◌<◌, ◌*◌, ◌-◌}
use native.Mathlib.Omega.{arith}
use mathlib.Core.Path.{◌≡◌, refl, ap}
use mathlib.Core.Logic.{inl, inr, ◌≢◌}
use mathlib.Core.Bool.{Bool, true, false, ◌||◌}
use mathlib.Core.List.Memᴰ
use mathlib.Core.List.{List, [], ◌∷◌, Memᴰ}
use lib.Dec.{T, eqb}
use borrow.Author.Tests.{eq-eqb, eqb-true}
use lib.ListN.{length, get_or}
use Rattle.meaning.specs.Following.{Rec, eq, Follows, Those, Only, Without}
use Rattle.meaning.specs.Reasons.{Above, last_of, FirstAt, Reason}
use Rattle.meaning.specs.Joins.{used, all, count, tick}
use Rattle.meaning.specs.Labels.{Labels, classes}
use Rattle.meaning.specs.Totals.{Classes}
use Rattle.meaning.proofs.Close.{more_of}
use Rattle.meaning.proofs.Leaders.{classes-of, classes-more}
use Rattle.meaning.proofs.Log.{joined-follows, used-short}
use Rattle.meaning.proofs.Rising.{rising-short}
use Rattle.meaning.proofs.Reference.{Small, State, Done, done, done-same, stable}

-- Membership as a test.
abbrev pub among : List ℕ → ℕ → Bool
among [] k = false
among (x ∷ L) k = eqb k x || among L k

pub among_in : (L : List ℕ) (k : ℕ) → T (among L k) → Memᴰ k L
among_in [] k t = absurd t
among_in (x ∷ L) k t = go (among_in L k) (eqb k x) refl t
  where
    go : (T (among L k) → Memᴰ k L) → (b : Bool) → eqb k x ≡ b → T (b || among L k) → Memᴰ k (x ∷ L)
    go f true e h = Memᴰ.head (eqb-true k x e)
    go f false e h = Memᴰ.tail (f h)

pub in-among : (L : List ℕ) (k : ℕ) → Memᴰ k L → T (among L k)
in-among [] k i = absurd (Memᴰ.not-nil i)
in-among (x ∷ L) k i = elim (Memᴰ.cases_cons i) [ inl p ↦ rw (eq-eqb k x p) tt | inr j ↦ or (eqb k x) (among L k) (in-among L k j) ]
  where
    or : (b c : Bool) → T c → T (b || c)
    or true c t = tt
    or false c t = t

pub dec_among : (L : List ℕ) (k : ℕ) → Dec (Memᴰ k L)
dec_among L k = go (among L k) refl
  where
    go : (b : Bool) → among L k ≡ b → Dec (Memᴰ k L)
    go true e = yes (among_in L k (rw e tt))
    go false e = no (λ i. rw e at (in-among L k i))

count-all : (n : ℕ) → count all n ≡ n
count-all zero = refl
count-all (suc n) = ap suc (count-all n)

count-first : (p : ℕ → Bool) (n : ℕ) → p 0 ≡ true → 1 ≤ count p (suc n)
count-first p zero e = rw e (omega arith)
count-first p (suc n) e = go (p (suc n)) (count-first p n e)
  where
    go : (b : Bool) {m : ℕ} → 1 ≤ m → 1 ≤ tick b m
    go true h = omega arith
    go false h = h

pub some-class : (N : ℕ) (f : ℕ → ℕ) → Labels f → 1 ≤ N → 1 ≤ classes f N
some-class zero f l h = omega arith
some-class (suc n) f l h = count-first (λ x. eqb (f x) x) n (eq-eqb (f 0) 0 (omega (arith, l.low 0)))

module _ (N : ℕ) (rs : List Rec) (small : (i : ℕ) → i < length rs → Small N (get_or rs i (eq 0 0))) (s t : ℕ) (L : List ℕ) (rising : Above 0 L) (entails : Follows (Only rs L) s t) (unspared : (m : ℕ) → Memᴰ m L → Follows (Without rs L m) s t → ⊥) where
  abbrev d : Done N rs small (among L)
  d = done N rs small (among L)

  abbrev st : State N rs small (among L)
  st = d.state

  again : Follows (Only rs (used st.e all st.n)) s t
  again = joined-follows rs st.e st.n st.sound (st.agree.joins s t ((done-same N rs small (among L) d s t).0 (more_of (in-among L) entails)))

  used_all : (m : ℕ) → Memᴰ m L → Memᴰ m (used st.e all st.n)
  used_all m i = stable (λ h. unspared m i (more_of (λ n j. (among_in L n (st.within n j), λ q. h (rw (← q) j))) again)) (dec_among (used st.e all st.n) m)

  own : length L ≤ 2 * (N - classes st.f N)
  own = omega (arith, rising-short 0 L (used st.e all st.n) rising used_all, used-short st.e all st.n, count-all st.n, st.total)

  -- C is the number of classes of any records that those of the list are among.
  pub unspared-tight : (P : ℕ → Type 0) (C : ℕ) → ((k : ℕ) → Memᴰ k L → P k) → Classes N (Those rs P) C → length L ≤ 2 * (N - C)
  unspared-tight P C within c =
      omega (arith, own, classes-more (λ r i. (i.0, within i.0 (among_in L i.0 i.1), i.2)) (classes-of st.labels (done-same N rs small (among L) d) N) c)

-- A list that meets the other points of a reason meets the last one too, so no list became a reason, or ceased to be one, by the stronger figure.
pub reason-others : (N : ℕ) (rs : List Rec) → ((i : ℕ) → i < length rs → Small N (get_or rs i (eq 0 0))) → {R s t : ℕ} {L : List ℕ} → Above 0 L → ((k : ℕ) → Memᴰ k L → k ≤ R)
    → Follows (Only rs L) s t → (s ≡ t → L ≡ []) → (s ≢ t → FirstAt rs s t (last_of 0 L)) → ((m : ℕ) → Memᴰ m L → Follows (Without rs L m) s t → ⊥) → Reason N rs R s t L
reason-others N rs small {R} {s} {t} {L} a b e q l u = record {
  rising = a;
  stand = b;
  entails = e;
  empty = q;
  last = l;
  unspared = u;
  short = λ C c. unspared-tight N rs small s t L a e u (λ k. k ≤ R) C b c;
}
