-- The laws that later layers cite of the definitions themselves: what is one, what is decided, what stays among the tags of a job, and that there
-- is a reason wherever equality follows. Each puts together what the other files prove. Assumes nothing.
use Prim.Native.Nat.{ℕ, zero, suc, ◌≤◌, ◌<◌, ◌*◌, ◌-◌}
use native.Mathlib.Omega.{arith}
use native.Mathlib.Decide.{ℕ_discrete, dec_lt}
use mathlib.Core.Path.{◌≡◌}
use mathlib.Core.Logic.{◌≢◌, ◌↔◌}
use mathlib.Core.Bool.{Bool, true, false}
use mathlib.Core.List.{List, []}
use lib.Dec.{T}
use lib.ListN.{length, get_or}
use Rattle.meaning.specs.Following.{Rec, eq, app, Follows, same, flip, chain, given, congruent, Those, UpTo, Least}
use Rattle.meaning.specs.Joins.{all, put}
use Rattle.meaning.specs.Reasons.{FirstAt, Reason}
use Rattle.meaning.specs.Totals.{none, one, skip, Classes, Idles}
use Rattle.meaning.specs.Trim.{Trimmed}
use Rattle.meaning.proofs.Close.{more, more_of}
use Rattle.meaning.proofs.Count.{count-one, count_most}
use Rattle.meaning.proofs.Reference.{Small}
use Rattle.meaning.proofs.Rising.{numbers, numbers-rise, numbers-in}
use Rattle.meaning.proofs.Short.{among, among_in, in-among}
use Rattle.meaning.proofs.Decide.{dec_follows, dec_up_to, dec_reason, count_classes}
use Rattle.meaning.proofs.Trim.{trim_start, trim-drop, trim-keep, trim_same, drop-bit}
use Rattle.meaning.proofs.Exact.{first-at, reason-of, reason-same}

-- The totals are one.
pub classes-one : {N : ℕ} {S : Rec → Type 0} {n m : ℕ} → Classes N S n → Classes N S m → n ≡ m
classes-one = count-one

pub idles-one : {rs : List Rec} {n m : ℕ} → Idles rs n → Idles rs m → n ≡ m
idles-one = count-one

-- The totals fit: no more classes than tags, no more idle records than records.
pub classes-most : {N : ℕ} {S : Rec → Type 0} {n : ℕ} → Classes N S n → n ≤ N
classes-most = count_most

pub idles-most : {rs : List Rec} {n : ℕ} → Idles rs n → n ≤ length rs
idles-most = count_most

-- Following is decided, from any records that are picked by a decided set of numbers; so is being a reason.
pub follows-decided : (rs : List Rec) (P : ℕ → Type 0) → ((k : ℕ) → Dec (P k)) → (s t : ℕ) → Dec (Follows (Those rs P) s t)
follows-decided rs P d = dec_follows rs (λ k. yesb (d k)) P (λ k. iff (d k))
  where
    yesb : {A : Type 0} → Dec A → Bool
    yesb (yes a) = true
    yesb (no a) = false

    iff : {A : Type 0} (e : Dec A) → A ↔ T (yesb e)
    iff (yes a) = (λ x. tt, λ t. a)
    iff (no a) = (a, λ t. absurd t)

pub reason-decided : (N : ℕ) (rs : List Rec) (R s t : ℕ) (L : List ℕ) → Dec (Reason N rs R s t L)
reason-decided = dec_reason

-- What a tag of the job is equal to is a tag of the job.
module _ (N : ℕ) {S : Rec → Type 0} (small : (r : Rec) → S r → Small N r) where
  pub follows-small : {s t : ℕ} → Follows S s t → (s < N) ↔ (t < N)
  follows-small same = (λ l. l, λ l. l)
  follows-small (flip p) = let e = follows-small p in (e.1, e.0)
  follows-small (chain p q) = let e = follows-small p in let g = follows-small q in (λ l. g.0 (e.0 l), λ l. e.1 (g.1 l))
  follows-small (given {a = a} {b = b} i) = let e = small (eq a b) i in (λ l. e.1, λ l. e.0)
  follows-small (congruent {a = a} {b = b} {c = c} {a' = a'} {b' = b'} {c' = c'} i j p q) = (λ l. (small (app a' b' c') j).2, λ l. (small (app a b c) i).2)

pub small-those : (N : ℕ) {rs : List Rec} {P : ℕ → Type 0} → ((i : ℕ) → i < length rs → Small N (get_or rs i (eq 0 0))) → (r : Rec) → Those rs P r → Small N r
small-those N small r i = rw i.2.is at (small i.2.place i.2.stands)

-- The smallest of a class is no greater than any tag of it, so it is a tag of the job where that is one.
pub least-low : {S : Rec → Type 0} {s l : ℕ} → Least S s l → l ≤ s
least-low {s = s} h = h.least s same

-- What has a reason follows from the records before the question.
pub reason-follows : {N : ℕ} {rs : List Rec} {R s t : ℕ} {L : List ℕ} → Reason N rs R s t L → Follows (UpTo rs R) s t
reason-follows h = more_of h.stand h.entails

-- Of one tag or more there is one class or more, so a reason has at most 2(N-1) numbers, of which document 01's needed room is made.
pub classes-some : {S : Rec → Type 0} {N n : ℕ} → 1 ≤ N → Classes N S n → 1 ≤ n
classes-some h none = absurd (omega arith)
classes-some h (one p c) = omega arith
classes-some h (skip {N = zero} p c) = absurd (p (record { member = same; least = λ x f. omega arith }))
classes-some h (skip {N = suc N} p c) = classes-some (omega arith) c

pub reason-short : {N : ℕ} {rs : List Rec} {R s t : ℕ} {L : List ℕ} → Reason N rs R s t L → length L ≤ 2 * (N - 1)
reason-short {N} {rs} {R} h = let c = count_classes N rs R in go (dec_lt 0 N) (h.short c.0 c.1) c.1
  where
    go : {m n : ℕ} → Dec (0 < N) → m ≤ 2 * (N - n) → Classes N (UpTo rs R) n → m ≤ 2 * (N - 1)
    go (yes l) k c = omega (arith, k, classes-some l c)
    go (no l) k c = omega (arith, k)

-- "2(N-1) can be met only with one class".
pub reason-full : {N : ℕ} {rs : List Rec} {R s t : ℕ} {L : List ℕ} {C : ℕ} → 2 ≤ N → Reason N rs R s t L → Classes N (UpTo rs R) C → length L ≡ 2 * (N - 1) → C ≡ 1
reason-full h r c e = omega (arith, r.short _ c, classes-some (omega arith) c)

-- Where equality follows there is a first k ..
pub first-there : (rs : List Rec) (R s t : ℕ) → Follows (UpTo rs R) s t → (k : ℕ) × (k ≤ R) × FirstAt rs s t k
first-there rs zero s t f = (0, omega arith, record { then = f; before = λ n l. absurd (omega arith) })
first-there rs (suc R) s t f = go (dec_up_to rs R s t) (first-there rs R s t)
  where
    go : Dec (Follows (UpTo rs R) s t) → (Follows (UpTo rs R) s t → (k : ℕ) × (k ≤ R) × FirstAt rs s t k) → (k : ℕ) × (k ≤ suc R) × FirstAt rs s t k
    go (yes g) h = let r = h g in (r.0, omega (arith, r.1), r.2)
    go (no g) h = (suc R, omega arith, first-at f g)

-- .. and what entails can be trimmed ..
trimmed-there : (rs : List Rec) (s t : ℕ) (x : ℕ → Bool) → Follows (Those rs (λ n. T (x n))) s t → (i : ℕ) → (y : ℕ → Bool) × Trimmed rs s t (λ n. T (y n)) i × ((n : ℕ) → T (y n) → T (x n))
trimmed-there rs s t x e zero = (x, trim_start e, λ n t. t)
trimmed-there rs s t x e (suc i) = go (trimmed-there rs s t x e i)
  where
    step : (y : ℕ → Bool) → Trimmed rs s t (λ n. T (y n)) i → ((n : ℕ) → T (y n) → T (x n)) → Dec (Follows (Those rs (λ n. T (y n) × (n ≢ i))) s t)
        → (y : ℕ → Bool) × Trimmed rs s t (λ n. T (y n)) (suc i) × ((n : ℕ) → T (y n) → T (x n))
    step y h u (yes f) = (put i false y, trim_same (drop-bit y i) (trim-drop h f), λ n t. u n ((drop-bit y i n).1 t).0)
    step y h u (no f) = (y, trim-keep h (λ _. f), u)

    go : (y : ℕ → Bool) × Trimmed rs s t (λ n. T (y n)) i × ((n : ℕ) → T (y n) → T (x n)) → (y : ℕ → Bool) × Trimmed rs s t (λ n. T (y n)) (suc i) × ((n : ℕ) → T (y n) → T (x n))
    go r = step r.0 r.1 r.2 (dec_follows rs (put i false r.0) (λ n. T (r.0 n) × (n ≢ i)) (drop-bit r.0 i) s t)

-- .. so there is a reason.
pub reason-there : (N : ℕ) (rs : List Rec) → ((i : ℕ) → i < length rs → Small N (get_or rs i (eq 0 0))) → (R s t : ℕ) → Follows (UpTo rs R) s t → (L : List ℕ) × Reason N rs R s t L
reason-there N rs small R s t f = go (ℕ_discrete s t) (first-there rs R s t f)
  where
    all_in : (k n : ℕ) → (1 ≤ n) × (n ≤ k) → T (among (numbers all k) n)
    all_in k n h = in-among (numbers all k) n ((numbers-in all k n).1 (h.0, h.1, tt))

    in_all : (k n : ℕ) → T (among (numbers all k) n) → (1 ≤ n) × (n ≤ k)
    in_all k n t = let r = (numbers-in all k n).0 (among_in (numbers all k) n t) in (r.0, r.1)

    list : (k : ℕ) → s ≢ t → k ≤ R → FirstAt rs s t k → (y : ℕ → Bool) × Trimmed rs s t (λ n. T (y n)) (suc k) × ((n : ℕ) → T (y n) → T (among (numbers all k) n)) → (L : List ℕ) × Reason N rs R s t L
    list k d l h r = (
      numbers r.0 k,
      reason-of N rs small R s t k (λ n. T (r.0 n)) (numbers r.0 k) d l h r.1 (λ n x. (in_all k n (r.2 n x)).1) (numbers-rise r.0 k).0
          (λ n. (λ i. ((numbers-in r.0 k n).0 i).2, λ x. let b = in_all k n (r.2 n x) in (numbers-in r.0 k n).1 (b.0, b.1, x))),
    )

    go : Dec (s ≡ t) → (k : ℕ) × (k ≤ R) × FirstAt rs s t k → (L : List ℕ) × Reason N rs R s t L
    go (yes q) r = ([], rw q (reason-same N rs R t))
    go (no q) r =
        list r.0 q r.1 r.2 (trimmed-there rs s t (among (numbers all r.0))
        (more (λ c i. (i.0, all_in r.0 i.0 (omega (arith, i.2.number), i.1), i.2)) r.2.then) (suc r.0))
