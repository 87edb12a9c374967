-- With equations only, records make two tags equal exactly if they lead from one to the other; and a way can be had with no tag twice, hence with no record twice, among
-- the same records. So a list that entails has at least as many records as a way has, and exactly those of a way if it has no more. Assumes nothing.
use Prim.Native.Nat.{ℕ, zero, suc, ◌≤◌, ◌<◌}
use native.Mathlib.Omega.{arith}
use native.Mathlib.Decide.{ℕ_discrete}
use mathlib.Core.Path.{◌≡◌, refl, sym, ◌∙◌, ap}
use mathlib.Core.Logic.{◌⊎◌, inl, inr}
use mathlib.Core.List.Memᴰ
use mathlib.Core.List.{List, [], ◌∷◌, Memᴰ}
use lib.ListN.{length}
use Rattle.meaning.specs.Following.{Rec, eq, app, At, Follows, same, flip, chain, given, Those}
use Rattle.meaning.proofs.Close.{Equality, follows-least}
use Rattle.meaning.proofs.Short.{dec_among}
use Rattle.harness_meaning.specs.Harness.{Shows}
use Rattle.harness_meaning.specs.Search.{Ends, forth, back, Way, start, step, Neat, first, then, Distinct, empty, more, Within}
use Rattle.harness_meaning.proofs.Order.{distinct-short}

-- A number stands for one record.
at_one : {rs : List Rec} {k : ℕ} {r r' : Rec} → At rs k r → At rs k r' → r ≡ r'
at_one i j = let q : i.place ≡ j.place = omega (arith, i.number, j.number) in sym i.is ∙ rw q j.is

-- A record leads both ways.
pub ends-flip : {a b : ℕ → ℕ} {k u v : ℕ} → Ends a b k u v → Ends a b k v u
ends-flip (forth p q) = back q p
ends-flip (back p q) = forth q p

-- Its ends are two, whatever they are called.
pub ends-either : {a b : ℕ → ℕ} {k u v x y : ℕ} → Ends a b k u v → Ends a b k x y → (v ≡ x) ⊎ (v ≡ y)
ends-either (forth p q) (forth p' q') = inr (q ∙ sym q')
ends-either (forth p q) (back p' q') = inl (q ∙ sym p')
ends-either (back p q) (forth p' q') = inl (q ∙ sym p')
ends-either (back p q) (back p' q') = inr (q ∙ sym q')

-- There is a way from s to t.
abbrev Reach : (ℕ → ℕ) → (ℕ → ℕ) → (ℕ → Type 0) → ℕ → ℕ → Type 0
Reach a b P s t = (L : List ℕ) × (n : ℕ) × Way a b P s t L n

module _ {a b : ℕ → ℕ} {P : ℕ → Type 0} where
  way-front : {s u v k n : ℕ} {L : List ℕ} → P k → Ends a b k s u → Way a b P u v L n → Reach a b P s v
  way-front {k = k} p e start = (k ∷ [], 1, step start p e)
  way-front p e (step {k = j} w q f) = let r = way-front p e w in (j ∷ r.0, suc r.1, step r.2 q f)

  way-join : {s u v n m : ℕ} {L M : List ℕ} → Way a b P s u L n → Way a b P u v M m → Reach a b P s v
  way-join {n = n} {L = L} w start = (L, n, w)
  way-join w (step {k = j} x q f) = let r = way-join w x in (j ∷ r.0, suc r.1, step r.2 q f)

  way-flip : {s v n : ℕ} {L : List ℕ} → Way a b P s v L n → Reach a b P v s
  way-flip start = ([], 0, start)
  way-flip (step w p e) = let r = way-flip w in way-front p (ends-flip e) r.2

  pub way-length : {s v n : ℕ} {L : List ℕ} → Way a b P s v L n → length L ≡ n
  way-length start = refl
  way-length (step w p e) = ap suc (way-length w)

  -- A way with no tag twice is a way, ..
  pub neat-way : {s v : ℕ} {L T : List ℕ} → Neat a b P s v L T → Way a b P s v L (length L)
  neat-way first = start
  neat-way (then w p e f) = step (neat-way w) p e

  -- .. can be broken off at any of its tags, ..
  neat-cut : {s u v : ℕ} {L T : List ℕ} → Neat a b P s u L T → Memᴰ v T → (M : List ℕ) × (U : List ℕ) × Neat a b P s v M U × ((k : ℕ) → Memᴰ k M → Memᴰ k L)
  neat-cut {s} first i = let q = Memᴰ.eq_of_singleton i in ([], s ∷ [], rw q first, λ k j. j)
  neat-cut {s} {u} {v} (then {k = k} {L = L} {T = T} w p e f) i = go (neat-cut w) (Memᴰ.cases_cons i)
    where
      go : (Memᴰ v T → (M : List ℕ) × (U : List ℕ) × Neat a b P s v M U × ((j : ℕ) → Memᴰ j M → Memᴰ j L)) → (v ≡ u) ⊎ Memᴰ v T
          → (M : List ℕ) × (U : List ℕ) × Neat a b P s v M U × ((j : ℕ) → Memᴰ j M → Memᴰ j (k ∷ L))
      go g (inl q) = (k ∷ L, u ∷ T, rw q (then w p e f), λ j h. h)
      go g (inr h) = let r = g h in (r.0, r.1, r.2, λ j x. Memᴰ.tail (r.3 j x))

  -- .. and every way has one among its records.
  pub way-neat : {s v n : ℕ} {L : List ℕ} → Way a b P s v L n → (M : List ℕ) × (U : List ℕ) × Neat a b P s v M U × ((k : ℕ) → Memᴰ k M → Memᴰ k L)
  way-neat {s} start = ([], s ∷ [], first, λ k i. i)
  way-neat {s} {v} (step {u = u} {k = k} {L = L} w p e) = let r = way-neat w in go r.0 r.1 r.2 r.3 (dec_among r.1 v)
    where
      go : (M U : List ℕ) → Neat a b P s u M U → ((j : ℕ) → Memᴰ j M → Memᴰ j L) → Dec (Memᴰ v U)
          → (M : List ℕ) × (U : List ℕ) × Neat a b P s v M U × ((j : ℕ) → Memᴰ j M → Memᴰ j (k ∷ L))
      go M U x f (yes i) = let r = neat-cut x i in (r.0, r.1, r.2, λ j h. Memᴰ.tail (f j (r.3 j h)))
      go M U x f (no i) = (k ∷ M, v ∷ U, then x p e i, λ j h. elim (Memᴰ.cases_cons h) [ inl q ↦ Memᴰ.head q | inr g ↦ Memᴰ.tail (f j g) ])

  -- The ends of its records are among its tags, ..
  neat-ends : {s u x y : ℕ} {L T : List ℕ} → Neat a b P s u L T → (k : ℕ) → Memᴰ k L → Ends a b k x y → Memᴰ y T
  neat-ends first k i e = absurd (Memᴰ.not-nil i)
  neat-ends {x = x} {y = y} (then {u = u} {v = v} {k = j} {L = L} {T = T} w p f d) k i e = go (neat-ends w k) (neat-last w) (Memᴰ.cases_cons i)
    where
      neat-last : {s u : ℕ} {L T : List ℕ} → Neat a b P s u L T → Memᴰ u T
      neat-last first = Memᴰ.head refl
      neat-last (then w p e d) = Memᴰ.head refl

      go : (Memᴰ k L → Ends a b k x y → Memᴰ y T) → Memᴰ u T → (k ≡ j) ⊎ Memᴰ k L → Memᴰ y (v ∷ T)
      go g l (inl q) = elim (ends-either (rw q at e) f) [ inl h ↦ let m : Memᴰ y T = rw h l in Memᴰ.tail m | inr h ↦ Memᴰ.head h ]
      go g l (inr h) = Memᴰ.tail (g h e)

  -- .. so it has no record twice, ..
  pub neat-distinct : {s u : ℕ} {L T : List ℕ} → Neat a b P s u L T → Distinct L
  neat-distinct first = empty
  neat-distinct (then {k = k} w p e d) = more (λ i. d (neat-ends w k i e)) (neat-distinct w)

  -- .. nor a tag, ..
  pub neat-tags : {s u : ℕ} {L T : List ℕ} → Neat a b P s u L T → Distinct T
  neat-tags first = more Memᴰ.not-nil empty
  neat-tags (then w p e d) = more d (neat-tags w)

  pub neat-length : {s u : ℕ} {L T : List ℕ} → Neat a b P s u L T → length T ≡ suc (length L)
  neat-length first = refl
  neat-length (then w p e d) = ap suc (neat-length w)

  pub neat-below : {s u : ℕ} {L T : List ℕ} (N : ℕ) → ((k : ℕ) → P k → (a k < N) × (b k < N)) → s < N → Neat a b P s u L T → (x : ℕ) → Memᴰ x T → x < N
  neat-below N small l first x i = let q = Memᴰ.eq_of_singleton i in rw q l
  neat-below N small l (then {v = v} {k = k} {T = T} w p e d) x i = go (neat-below N small l w x) e (small k p) (Memᴰ.cases_cons i)
    where
      go : {u : ℕ} → (Memᴰ x T → x < N) → Ends a b k u v → (a k < N) × (b k < N) → (x ≡ v) ⊎ Memᴰ x T → x < N
      go f (forth p q) z (inl r) = omega (arith, z.1)
      go f (back p q) z (inl r) = omega (arith, z.0)
      go f g z (inr h) = f h

-- The numbers below N.
abbrev below : ℕ → List ℕ
below zero = []
below (suc n) = n ∷ below n

below_in : (n x : ℕ) → x < n → Memᴰ x (below n)
below_in zero x l = absurd (omega arith)
below_in (suc n) x l = go (below_in n x) (ℕ_discrete x n)
  where
    go : (x < n → Memᴰ x (below n)) → Dec (x ≡ n) → Memᴰ x (n ∷ below n)
    go f (yes q) = Memᴰ.head q
    go f (no q) = Memᴰ.tail (f (omega arith))

below_length : (n : ℕ) → length (below n) ≡ n
below_length zero = refl
below_length (suc n) = ap suc (below_length n)

-- .. so it has fewer records than the job has tags.
pub neat-short : {a b : ℕ → ℕ} {P : ℕ → Type 0} {s u : ℕ} {L T : List ℕ} (N : ℕ) → ((k : ℕ) → P k → (a k < N) × (b k < N)) → s < N → Neat a b P s u L T → length L < N
neat-short {T = T} N small l w =
    omega (arith, neat-length w, below_length N, distinct-short (below N) (neat-tags w) (λ x i. below_in N x (neat-below N small l w x i)))

-- A way among fewer records.
pub way-more : {a b : ℕ → ℕ} {P Q : ℕ → Type 0} {s v n : ℕ} {L : List ℕ} → ((k : ℕ) → P k → Q k) → Way a b P s v L n → Way a b Q s v L n
way-more f start = start
way-more f (step {k = k} w p e) = step (way-more f w) (f k p) e

pub way_in : {a b : ℕ → ℕ} {P : ℕ → Type 0} {s v n : ℕ} {L : List ℕ} → Way a b P s v L n → (k : ℕ) → Memᴰ k L → P k
way_in start k i = absurd (Memᴰ.not-nil i)
way_in {P = P} (step {k = j} w p e) k i = elim (Memᴰ.cases_cons i) [ inl q ↦ rw q p | inr h ↦ way_in w k h ]

-- Every record before the question is an equation: number k is `a k = b k`.
module _ (rs : List Rec) (R : ℕ) (a b : ℕ → ℕ) (plain : (k : ℕ) → Within R k → At rs k (eq (a k) (b k))) where
  -- A way makes its ends equal by its records, ..
  pub way-follows : {s v n : ℕ} {L : List ℕ} (X : ℕ → Type 0) → Way a b (Within R) s v L n → ((k : ℕ) → Memᴰ k L → X k) → Follows (Those rs X) s v
  way-follows X start f = same
  way-follows {s} {v} X (step {u = u} {k = k} w p e) f = chain (way-follows X w (λ j i. f j (Memᴰ.tail i))) (go e)
    where
      go : Ends a b k u v → Follows (Those rs X) u v
      go (forth q r) = rw (q, r) (given (k, f k (Memᴰ.head refl), plain k p))
      go (back q r) = rw (q, r) (flip (given (k, f k (Memᴰ.head refl), plain k p)))

  -- .. and where records make two tags equal there is a way by them.
  module _ (X : ℕ → Type 0) (before : (k : ℕ) → X k → k ≤ R) where
    at-ends : {k x y : ℕ} → X k → At rs k (eq x y) → Ends a b k x y
    at-ends {k} i at = let q = at_one at (plain k (omega (arith, at.number), before k i)) in forth (cc q) (cc q)

    at-not : {k x y z : ℕ} → X k → At rs k (app x y z) → ⊥
    at-not {k} i at = let q = at_one at (plain k (omega (arith, at.number), before k i)) in let z : ◌≡◌ {A = ℕ} 0 1 = cc q in omega arith

    reach-equality : Equality (Those rs X) (Reach a b X)
    reach-equality = record {
      reflexive = ([], 0, start);
      symmetric = λ r. way-flip r.2;
      transitive = λ r q. way-join r.2 q.2;
      equations = λ i. (i.0 ∷ [], 1, step start i.1 (at-ends i.1 i.2));
      applications = λ i j p q. absurd (at-not i.1 i.2);
    }

    pub follows-way : {s t : ℕ} → Follows (Those rs X) s t → (L : List ℕ) × (n : ℕ) × Way a b X s t L n
    follows-way f = follows-least {R = Reach a b X} reach-equality f

  -- So a list that entails has a way with no tag twice among its records.
  pub shows-neat : {s t : ℕ} {M : List ℕ} → Shows rs R s t M → (L : List ℕ) × (T : List ℕ) × Neat a b (λ k. Memᴰ k M) s t L T
  shows-neat {M = M} h = let r = way-neat (follows-way (λ k. Memᴰ k M) h.stand h.entails).2 in (r.0, r.1, r.2)
