-- What was seen of a job, seen in the harness profile: the reading of the profile is the other one and the first field of kind 02, taken together. Assumes nothing.
use Prim.Native.Nat.{ℕ, suc, ◌≤◌, ◌<◌}
use native.Mathlib.Omega.{arith}
use mathlib.Core.Path.{◌≡◌, refl, sym, ◌∙◌}
use mathlib.Core.Bool.{true, false}
use mathlib.Core.List.{List}
use lib.ListN.{length}
use borrow.Author.Tests.{lt-ltb, le-ltb}
use Rattle.job_field.specs.Items.{Head, Item, Reading, refused, accepted}
use Rattle.job_field.specs.Reading.{reading}
use Rattle.call_look.specs.Seen.{Seen}
use Rattle.call_look.specs.Look as seen
use Rattle.call_look.specs.Look.{Viewed, Looked, faulty}
use Rattle.call_look.specs.Begun.{Begun}
use Rattle.call_look.proofs.Ready.{looked-lent}
use Rattle.harness_read.specs.Profile.{harness_reading, none, some, apply_from, place_in}
use Rattle.harness_read.proofs.Bridge.{harness-reading, harness-accepted}
use Rattle.harness_rest.specs.Look as l
use Rattle.harness_rest.specs.Look.{HarnessViewed, Profiled, HarnessLooked, HarnessBegun}

-- A refusal does not let the call go on.
not-ready : {r s : Seen} (n a : ℕ) → r ≡ faulty n a → r.ready ≡ true → r ≡ s
not-ready n a e q = let z : ◌≡◌ {A = ℕ} 0 1 = cc in absurd (omega arith)

-- Where the walk comes to no field of kind 02, and where it comes to one.
module _ (job : List ℕ) (p : ℕ) (w : place_in (length job) p ≡ apply_from (suc (length job)) job 0) where
  none-there : length job ≤ p → apply_from (suc (length job)) job 0 ≡ none
  none-there h = sym w ∙ rw (le-ltb p (length job) h) refl

  some-there : p < length job → apply_from (suc (length job)) job 0 ≡ some p
  some-there h = sym w ∙ rw (lt-ltb p (length job) h) refl

  unmarked : (r : Reading) → length job ≤ p → reading job ≡ r → harness_reading job ≡ r
  unmarked (refused n q) h e = harness-reading job ∙ rw (e, none-there h) refl
  unmarked (accepted H is) h e = harness-reading job ∙ rw (e, none-there h) refl

  refused-sooner : (n q : ℕ) → p < length job → q < p → reading job ≡ refused n q → harness_reading job ≡ refused n q
  refused-sooner n q h o e = harness-reading job ∙ rw (e, some-there h, lt-ltb q p o) refl

  refused-later : (n q : ℕ) → p < length job → p ≤ q → reading job ≡ refused n q → harness_reading job ≡ refused 4 p
  refused-later n q h o e = harness-reading job ∙ rw (e, some-there h, le-ltb q p o) refl

  accepted-marked : (H : Head) (is : List Item) → p < length job → reading job ≡ accepted H is → harness_reading job ≡ refused 4 p
  accepted-marked H is h e = harness-reading job ∙ rw (e, some-there h) refl

  pub profile-none : (s : Seen) → length job ≤ p → s.lent ≡ true → Viewed job s → Profiled job s s
  profile-none s h q (seen.unread {n = n} {p = a} e) = l.viewed q (l.unread (unmarked (refused n a) h e)) (λ r. refl)
  profile-none s h q (seen.ready {H = H} {items = is} e) = l.viewed q (l.ready (unmarked (accepted H is) h e)) (λ r. refl)

  pub profile-ready : (s r : Seen) → p < length job → s.lent ≡ true → s.ready ≡ true → Viewed job s → r ≡ faulty 4 p → Profiled job s r
  profile-ready s r h q k (seen.unread e) f = let z : ◌≡◌ {A = ℕ} 0 1 = cc in absurd (omega arith)
  profile-ready s r h q k (seen.ready {H = H} {items = is} e) f = rw f (l.viewed q (l.unread (accepted-marked H is h e)) (λ x. not-ready 4 p refl x))

  pub profile-sooner : (s : Seen) → p < length job → s.lent ≡ true → s.ready ≡ false → s.place < p → Viewed job s → Profiled job s s
  profile-sooner s h q k o (seen.unread {n = n} {p = a} e) = l.viewed q (l.unread (refused-sooner n a h o e)) (λ r. refl)
  profile-sooner s h q k o (seen.ready e) = let z : ◌≡◌ {A = ℕ} 0 1 = cc in absurd (omega arith)

  pub profile-later : (s r : Seen) → p < length job → s.lent ≡ true → s.ready ≡ false → p ≤ s.place → Viewed job s → r ≡ faulty 4 p → Profiled job s r
  profile-later s r h q k o (seen.unread {n = n} {p = a} e) f = rw f (l.viewed q (l.unread (refused-later n a h o e)) (λ x. not-ready 4 p refl x))
  profile-later s r h q k o (seen.ready e) f = let z : ◌≡◌ {A = ℕ} 0 1 = cc in absurd (omega arith)

-- What the rest of a call begins with, in this profile.
pub begun-viewed : {job w : List ℕ} {s : Seen} → Begun job w s → s.lent ≡ true → Viewed job s
begun-viewed {s = s} b q = (looked-lent s b.looked q).viewed

looked-too : {job : List ℕ} {s r : Seen} {places n : ℕ} → Looked job places n s → Profiled job s r → HarnessLooked job places n r
looked-too (seen.long h) (l.declined q) = l.long h
looked-too (seen.long h) (l.viewed q v e) = let z : ◌≡◌ {A = ℕ} 0 1 = cc in absurd (omega arith)
looked-too (seen.narrow h o) (l.declined q) = l.narrow h o
looked-too (seen.narrow h o) (l.viewed q v e) = let z : ◌≡◌ {A = ℕ} 0 1 = cc in absurd (omega arith)
looked-too (seen.viewed h (seen.unread x)) (l.declined q) = let z : ◌≡◌ {A = ℕ} 0 1 = cc in absurd (omega arith)
looked-too (seen.viewed h (seen.ready x)) (l.declined q) = let z : ◌≡◌ {A = ℕ} 0 1 = cc in absurd (omega arith)
looked-too (seen.viewed h x) (l.viewed q v e) = l.viewed h v

same-where : {job : List ℕ} {s r : Seen} → Profiled job s r → r.ready ≡ true → r ≡ s
same-where (l.declined q) k = refl
same-where (l.viewed q v e) k = e k

pub begun-profile : {job w : List ℕ} {s : Seen} → Begun job w s → (r : Seen) → Profiled job s r → HarnessBegun job w r
begun-profile {job} {w} {s} b r f = record {
  places = b.places;
  looked = looked-too b.looked f;
  loaded = λ k. let e : r ≡ s = same-where f k in rw e (b.loaded (rw e at k));
  columns = λ H is x k. let e : r ≡ s = same-where f k in rw e (b.columns H is ((harness-accepted job H is).0 x).0 (rw e at k));
}
