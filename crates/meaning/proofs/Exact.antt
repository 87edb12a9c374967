-- A closure that has nothing left to do is sound by its log and complete by its labels, so its labels decide following, leaders and the number of classes. Below it
-- stand what follows for a reason, for a front of the records and for the first k. Assumes nothing.
use Prim.Native.Nat.{ℕ, suc, ◌≤◌, ◌<◌}
use native.Mathlib.Omega.{arith}
use mathlib.Core.Path.{◌≡◌, refl, sym, ◌∙◌}
use mathlib.Core.Logic.{◌≢◌, ◌↔◌}
use mathlib.Core.List.Memᴰ
use mathlib.Core.List.{List, [], ◌++◌, Memᴰ}
use lib.ListN.{length, get_or, length-append, get_or-append}
use Rattle.meaning.specs.Following.{Rec, eq, At, Follows, same, Those, Only, UpTo, Without, Least}
use Rattle.meaning.specs.Reasons.{Above, last_of, FirstAt, Reason}
use Rattle.meaning.specs.Joins.{Join, Justified, used, all}
use Rattle.meaning.specs.Labels.{Labels, classes, Agree}
use Rattle.meaning.specs.Trim.{Trimmed}
use Rattle.meaning.specs.Totals.{Classes}
use Rattle.meaning.proofs.Close.{more, more_of, Closed, complete}
use Rattle.meaning.proofs.Leaders.{least-of, classes-of}
use Rattle.meaning.proofs.Log.{linked-follows}
use Rattle.meaning.proofs.Trim.{last-is-first}
use Rattle.meaning.proofs.Reference.{Small}
use Rattle.meaning.proofs.Short.{reason-others}

-- The state of a closure of the records in P that has nothing left to do: the labels f are those of its n joins e, each join rests on older ones and on records
-- in P, and no record in P contradicts the labels.
pub record Settled (rs : List Rec) (P : ℕ → Type 0) (e : ℕ → Join) (n : ℕ) (f : ℕ → ℕ) : Type 0 where
  pub labels : Labels f
  pub agree : Agree e n f
  pub sound : Justified rs e n
  pub within : (k : ℕ) → Memᴰ k (used e all n) → P k
  pub closed : Closed (Those rs P) f

module _ {rs : List Rec} {P : ℕ → Type 0} {e : ℕ → Join} {n : ℕ} {f : ℕ → ℕ} (d : Settled rs P e n f) where
  pub settled_same : (s t : ℕ) → Follows (Those rs P) s t ↔ (f s ≡ f t)
  settled_same s t = (λ h. complete d.closed h, λ q. linked-follows rs e all P n d.sound d.within s t (d.agree.joins s t q))

  pub settled-least : (s : ℕ) → Least (Those rs P) s (f s)
  settled-least = least-of d.labels settled_same

  pub settled-classes : (N : ℕ) → Classes N (Those rs P) (classes f N)
  settled-classes = classes-of d.labels settled_same

-- A reason from a set of numbers within 1..k that entails and of which none can be spared, with k the first that entails, listed in order: the other points follow.
pub reason-set : (N : ℕ) (rs : List Rec) → ((i : ℕ) → i < length rs → Small N (get_or rs i (eq 0 0))) → (R s t k : ℕ) (X : ℕ → Type 0) (L : List ℕ)
    → s ≢ t → k ≤ R → FirstAt rs s t k → ((n : ℕ) → X n → n ≤ k) → Follows (Those rs X) s t → ((m : ℕ) → X m → Follows (Those rs (λ n. X n × (n ≢ m))) s t → ⊥)
    → Above 0 L → ((n : ℕ) → Memᴰ n L ↔ X n) → Reason N rs R s t L
reason-set N rs small R s t k X L d l f u x p a e =
    reason-others N rs small a (λ n i. omega (arith, within n i)) again (λ q. absurd (d q)) (λ _. rw (last-is-first rs s t k L f a within again) f) (λ m i g. p m ((e m).0 i) (more_of (λ n j. ((e n).0 j.0, j.1)) g))
  where
    within : (n : ℕ) → Memᴰ n L → n ≤ k
    within n i = u n ((e n).0 i)

    again : Follows (Only rs L) s t
    again = more_of (λ n. (e n).1) x

-- The same from a list that rises already, ..
pub reason-list : (N : ℕ) (rs : List Rec) → ((i : ℕ) → i < length rs → Small N (get_or rs i (eq 0 0))) → (R s t k : ℕ) (L : List ℕ)
    → s ≢ t → k ≤ R → FirstAt rs s t k → Above 0 L → ((n : ℕ) → Memᴰ n L → n ≤ k) → Follows (Only rs L) s t
    → ((m : ℕ) → Memᴰ m L → Follows (Without rs L m) s t → ⊥) → Reason N rs R s t L
reason-list N rs small R s t k L d l f a u h spare = reason-set N rs small R s t k (λ n. Memᴰ n L) L d l f u h spare a (λ n. (λ i. i, λ i. i))

-- .. and from a set that was gone through in the order of its numbers.
pub reason-of : (N : ℕ) (rs : List Rec) → ((i : ℕ) → i < length rs → Small N (get_or rs i (eq 0 0))) → (R s t k : ℕ) (X : ℕ → Type 0) (L : List ℕ)
    → s ≢ t → k ≤ R → FirstAt rs s t k → Trimmed rs s t X (suc k) → ((n : ℕ) → X n → n ≤ k) → Above 0 L → ((n : ℕ) → Memᴰ n L ↔ X n)
    → Reason N rs R s t L
reason-of N rs small R s t k X L d l f h u a e = reason-set N rs small R s t k X L d l f u h.entails (λ m x. h.unspared m (omega (arith, u m x)) x) a e

-- A tag is equal to itself, and no record is needed for it.
pub reason-same : (N : ℕ) (rs : List Rec) (R s : ℕ) → Reason N rs R s s []
reason-same N rs R s = record {
  rising = tt;
  stand = λ k i. absurd (Memᴰ.not-nil i);
  entails = same;
  empty = λ p. refl;
  last = λ n. absurd (n refl);
  unspared = λ m i. absurd (Memᴰ.not-nil i);
  short = λ C c. omega arith;
}

-- Later records change nothing that is said of a front.
pub at_front : (rs qs : List Rec) {k : ℕ} {r : Rec} → At rs k r → At (rs ++ qs) k r
at_front rs qs h = record { place = h.place; number = h.number; stands = rw length-append (omega (arith, h.stands)); is = get_or-append rs qs (eq 0 0) h.place h.stands ∙ h.is }

pub front_at : (rs qs : List Rec) {k : ℕ} {r : Rec} → k ≤ length rs → At (rs ++ qs) k r → At rs k r
front_at rs qs l h =
    let i : h.place < length rs = omega (arith, h.number) in
    record { place = h.place; number = h.number; stands = i; is = sym (get_or-append rs qs (eq 0 0) h.place i) ∙ h.is }

pub follows-front : (rs qs : List Rec) {k s t : ℕ} → k ≤ length rs → Follows (UpTo (rs ++ qs) k) s t ↔ Follows (UpTo rs k) s t
follows-front rs qs {k} l = (
  more (λ r i. let b : i.0 ≤ k = i.1 in (i.0, b, front_at rs qs (omega arith) i.2)),
  more (λ r i. (i.0, i.1, at_front rs qs i.2)),
)

-- The first k is found by two questions, ..
pub first-at : {rs : List Rec} {s t k : ℕ} → Follows (UpTo rs (suc k)) s t → (Follows (UpTo rs k) s t → ⊥) → FirstAt rs s t (suc k)
first-at f h = record { then = f; before = λ n l g. h (more_of (λ m i. omega arith) g) }

-- .. there is only one, ..
pub first_one : {rs : List Rec} {s t k k' : ℕ} → FirstAt rs s t k → FirstAt rs s t k' → k ≡ k'
first_one {k = k} {k' = k'} f f' =
    let a : ¬ (k < k') = λ l. f'.before k (omega arith) f.then in
    let b : ¬ (k' < k) = λ l. f.before k' (omega arith) f'.then in
    omega arith

-- .. and a rising list within 1..k+1 that entails, where 1..k do not, ends with it.
pub last-at : (rs : List Rec) (s t k : ℕ) (L : List ℕ) → (Follows (UpTo rs k) s t → ⊥) → Above 0 L → ((n : ℕ) → Memᴰ n L → n ≤ suc k) → Follows (Only rs L) s t → last_of 0 L ≡ suc k
last-at rs s t k L h a u e = last-is-first rs s t (suc k) L (first-at (more_of u e) h) a u e
