-- Each number is counted or skipped by what it is, so two counts of one set agree, a greater set counts no less, and a test counts
-- what passes it. Assumes nothing.
use Prim.Native.Nat.{ℕ, zero, suc, ◌≤◌, ◌<◌}
use native.Mathlib.Omega.{arith}
use native.Mathlib.Decide.{ℕ_discrete, dec_lt}
use mathlib.Core.Path.{◌≡◌, refl, ap}
use mathlib.Core.Logic.{◌↔◌}
use mathlib.Core.Bool.{Bool, true, false}
use lib.Dec.{T}
use Rattle.meaning.specs.Joins.{count, tick}
use Rattle.meaning.specs.Totals.{Count, none, one, skip}

pub count-one : {P : ℕ → Type 0} {N n n' : ℕ} → Count P N n → Count P N n' → n ≡ n'
count-one none none = refl
count-one (one p c) (one q d) = ap suc (count-one c d)
count-one (one p c) (skip q d) = absurd (q p)
count-one (skip p c) (one q d) = absurd (p q)
count-one (skip p c) (skip q d) = count-one c d

pub count_of : (P : ℕ → Type 0) (p : ℕ → Bool) (N : ℕ) → ((x : ℕ) → x < N → P x ↔ T (p x)) → Count P N (count p N)
count_of P p zero h = none
count_of P p (suc N) h = go (p N) (h N (omega arith)) (count_of P p N (λ x l. h x (omega arith)))
  where
    go : (b : Bool) → P N ↔ T b → Count P N (count p N) → Count P (suc N) (tick b (count p N))
    go true e c = one (e.1 tt) c
    go false e c = skip e.0 c

-- What is in P is in Q: so Q counts no less.
pub count-more : {P Q : ℕ → Type 0} {N n m : ℕ} → ((x : ℕ) → P x → Q x) → Count P N n → Count Q N m → n ≤ m
count-more h none none = omega arith
count-more h (one p c) (one q d) = omega (arith, count-more h c d)
count-more h (one p c) (skip q d) = absurd (q (h _ p))
count-more h (skip p c) (one q d) = omega (arith, count-more h c d)
count-more h (skip p c) (skip q d) = count-more h c d

pub count_most : {P : ℕ → Type 0} {N n : ℕ} → Count P N n → n ≤ N
count_most none = omega arith
count_most (one p c) = omega (arith, count_most c)
count_most (skip p c) = omega (arith, count_most c)

-- How many pass before a number that passes is its place among those that pass: no other has it, and every place is one's.
pub count_low : (p : ℕ → Bool) (n : ℕ) → count p n ≤ n
count_low p zero = omega arith
count_low p (suc n) = go (p n) (count_low p n)
  where
    go : (b : Bool) → count p n ≤ n → tick b (count p n) ≤ suc n
    go true l = omega arith
    go false l = omega arith

pub count_less : (p : ℕ → Bool) (a n : ℕ) → a < n → T (p a) → count p a < count p n
count_less p a zero l t = absurd (omega arith)
count_less p a (suc n) l t = go (p n) refl (ℕ_discrete a n) (λ h. count_less p a n h t)
  where
    go : (b : Bool) → p n ≡ b → Dec (a ≡ n) → (a < n → count p a < count p n) → count p a < tick b (count p n)
    go true q (yes e) f = rw e (omega arith)
    go true q (no e) f = omega (arith, f (omega arith))
    go false q (yes e) f = absurd (rw (e, q) at t)
    go false q (no e) f = f (omega arith)

pub count-there : (p : ℕ → Bool) (n i : ℕ) → i < count p n → (a : ℕ) × (a < n) × T (p a) × (count p a ≡ i)
count-there p zero i l = absurd (omega arith)
count-there p (suc n) i l = go (p n) refl (dec_lt i (count p n)) (count-there p n i) l
  where
    go : (b : Bool) → p n ≡ b → Dec (i < count p n) → (i < count p n → (a : ℕ) × (a < n) × T (p a) × (count p a ≡ i)) → i < tick b (count p n) → (a : ℕ) × (a < suc n) × T (p a) × (count p a ≡ i)
    go b q (yes h) f l = let r = f h in (r.0, omega (arith, r.1), r.2, r.3)
    go true q (no h) f l = (n, omega arith, rw q tt, omega arith)
    go false q (no h) f l = absurd (h l)
