-- A labelling that leads down and is equal exactly where equality follows gives each tag the smallest number of its class, and its own
-- labels are as many as the classes. Assumes nothing.
use Prim.Native.Nat.{ℕ, ◌≤◌}
use native.Mathlib.Omega.{arith}
use mathlib.Core.Path.{◌≡◌, sym}
use mathlib.Core.Logic.{◌↔◌}
use lib.Dec.{T, eqb, eqb→eq}
use borrow.Author.Tests.{eq-eqb}
use Rattle.meaning.specs.Following.{Rec, Follows, same, flip, chain, Least}
use Rattle.meaning.specs.Labels.{Labels, classes}
use Rattle.meaning.specs.Totals.{Classes}
use Rattle.meaning.proofs.Count.{count_of, count-more}
use Rattle.meaning.proofs.Close.{more}

module _ {S : Rec → Type 0} {f : ℕ → ℕ} (L : Labels f) (exact : (s t : ℕ) → Follows S s t ↔ (f s ≡ f t)) where
  pub least-of : (s : ℕ) → Least S s (f s)
  least-of s = record { member = (exact s (f s)).1 (sym (L.flat s)); least = λ x h. rw ((exact s x).0 h) (L.low x) }

  pub classes-of : (N : ℕ) → Classes N S (classes f N)
  classes-of N = count_of (λ x. Least S x x) (λ x. eqb (f x) x) N (λ x l. (own x, led x))
    where
      own : (x : ℕ) → Least S x x → T (eqb (f x) x)
      own x h = rw (eq-eqb (f x) x (omega (arith, L.low x, h.least (f x) (least-of x).member))) tt

      led : (x : ℕ) → T (eqb (f x) x) → Least S x x
      led x t = rw (eqb→eq (f x) x t) at (least-of x)

-- Two tags are equal exactly if the smallest of their classes are one.
pub least-same : {S : Rec → Type 0} {s t l m : ℕ} → Least S s l → Least S t m → Follows S s t ↔ (l ≡ m)
least-same {l = l} {m = m} h k = (
  λ f. omega (arith, h.least m (chain f k.member), k.least l (chain (flip f) h.member)),
  λ e. chain h.member (flip (rw (← e) at k.member)),
)

-- More records make no more classes: a tag that still is the smallest of its class was so before.
pub classes-more : {S S' : Rec → Type 0} {N n m : ℕ} → ((r : Rec) → S r → S' r) → Classes N S n → Classes N S' m → m ≤ n
classes-more h c d = count-more (λ x l. record { member = same; least = λ y f. l.least y (more h f) }) d c
