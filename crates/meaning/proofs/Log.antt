-- A join rests on older joins only, so by induction on its age what the marked joins connect follows from their records alone. Each join brings at most two
-- record numbers, so those of the marked joins are at most twice as many. Assumes nothing.
use Prim.Native.Nat.{ℕ, zero, suc, ◌≤◌, ◌<◌, ◌+◌, ◌*◌}
use native.Mathlib.Omega.{arith}
use native.Mathlib.Decide.{dec_le}
use mathlib.Core.Path.{◌≡◌, refl, sym, ◌∙◌}
use mathlib.Core.Logic.{◌≢◌}
use mathlib.Core.Bool.{Bool, true, false}
use mathlib.Core.List.Memᴰ
use mathlib.Core.List.{List, Memᴰ}
use lib.Dec.{T}
use borrow.Author.Tests.{eq-eqb, ne_eqb}
use lib.ListN.{length, length-append}
use Rattle.meaning.specs.Following.{Rec, Follows, same, flip, chain, given, congruent, Those, Only}
use Rattle.meaning.specs.Joins.{Why, by, cong, Join, Linked, here, below, over, back, Grounds, equation, applications, Supported, Joined, Justified, all, numbers_of, keep, used, tick, count, put}

pub put-hit : {A : Type 0} (i : ℕ) (a : A) (f : ℕ → A) → put i a f i ≡ a
put-hit i a f = rw (eq-eqb i i refl)

pub put-miss : {A : Type 0} (i : ℕ) (a : A) (f : ℕ → A) (x : ℕ) → x ≢ i → put i a f x ≡ f x
put-miss i a f x h = rw (ne_eqb x i h)

module _ {e : ℕ → Join} {m : ℕ → Bool} where
  pub linked-refl : (n s : ℕ) → Linked e m n s s
  linked-refl zero s = here refl
  linked-refl (suc n) s = below (linked-refl n s)

  pub linked-sym : {n s t : ℕ} → Linked e m n s t → Linked e m n t s
  linked-sym (here p) = here (sym p)
  linked-sym (below p) = below (linked-sym p)
  linked-sym (over o p q) = back o (linked-sym q) (linked-sym p)
  linked-sym (back o p q) = over o (linked-sym q) (linked-sym p)

  pub linked-trans : {n s t w : ℕ} → Linked e m n s t → Linked e m n t w → Linked e m n s w
  linked-trans (here p) (here q) = here (p ∙ q)
  linked-trans (below p) (below q) = below (linked-trans p q)
  linked-trans (below p) (over o q r) = over o (linked-trans p q) r
  linked-trans (below p) (back o q r) = back o (linked-trans p q) r
  linked-trans (over o p q) (below r) = over o p (linked-trans q r)
  linked-trans (over o p q) (over o' r w) = over o p w
  linked-trans (over o p q) (back o' r w) = below (linked-trans p w)
  linked-trans (back o p q) (below r) = back o p (linked-trans q r)
  linked-trans (back o p q) (over o' r w) = below (linked-trans p w)
  linked-trans (back o p q) (back o' r w) = back o p w

  -- What older joins link stays linked.
  pub linked_up : {n s t : ℕ} (k : ℕ) → n ≤ k → Linked e m n s t → Linked e m k s t
  linked_up {n} zero l p = let q : n ≡ 0 = omega arith in rw q at p
  linked_up {n} {s} {t} (suc k) l p = go (λ l'. linked_up k l' p) (dec_le n k)
    where
      go : (n ≤ k → Linked e m k s t) → Dec (n ≤ k) → Linked e m (suc k) s t
      go f (yes h) = below (f h)
      go f (no h) = let q : n ≡ suc k = omega arith in rw q at p

-- More marks link more.
pub linked-more : {e : ℕ → Join} {m m' : ℕ → Bool} → ((a : ℕ) → T (m a) → T (m' a)) → {n s t : ℕ} → Linked e m n s t → Linked e m' n s t
linked-more h (here p) = here p
linked-more h (below p) = below (linked-more h p)
linked-more h (over o p q) = over (h _ o) (linked-more h p) (linked-more h q)
linked-more h (back o p q) = back (h _ o) (linked-more h p) (linked-more h q)

-- Only the first n joins matter.
pub linked-same : {e e' : ℕ → Join} {m : ℕ → Bool} {n : ℕ} → ((a : ℕ) → a < n → e a ≡ e' a) → {s t : ℕ} → Linked e m n s t → Linked e' m n s t
linked-same h (here p) = here p
linked-same h (below p) = below (linked-same (λ a l. h a (omega arith)) p)
linked-same {e = e} h (over {n = n} {s = s} {t = t} o p q) = over o (rw (h n (omega arith)) at (linked-same (λ a l. h a (omega arith)) p)) (rw (h n (omega arith)) at (linked-same (λ a l. h a (omega arith)) q))
linked-same h (back {n = n} o p q) = back o (rw (h n (omega arith)) at (linked-same (λ a l. h a (omega arith)) p)) (rw (h n (omega arith)) at (linked-same (λ a l. h a (omega arith)) q))

pub grounds-more : {rs : List Rec} {R R' : ℕ → ℕ → Type 0} → ((a b : ℕ) → R a b → R' a b) → {u v : ℕ} {w : Why} → Grounds rs R u v w → Grounds rs R' u v w
grounds-more h (equation i) = equation i
grounds-more h (applications i i' p q) = applications i i' (h _ _ p) (h _ _ q)

pub used-same : (e e' : ℕ → Join) (m : ℕ → Bool) (n : ℕ) → ((a : ℕ) → a < n → e a ≡ e' a) → used e m n ≡ used e' m n
used-same e e' m zero h = refl
used-same e e' m (suc n) h = rw (h n (omega arith), used-same e e' m n (λ a l. h a (omega arith)))

keep-in : (b : Bool) {k : ℕ} {L : List ℕ} → T b → Memᴰ k L → Memᴰ k (keep b L)
keep-in true t i = i
keep-in false t i = absurd t

module _ (rs : List Rec) (e : ℕ → Join) (m : ℕ → Bool) (P : ℕ → Type 0) where
  ground : (R : ℕ → ℕ → Type 0) {u v : ℕ} {w : Why} → ((a b : ℕ) → R a b → Follows (Those rs P) a b)
      → ((k : ℕ) → Memᴰ k (numbers_of w) → P k) → Grounds rs R u v w → Follows (Those rs P) u v
  ground R f h (equation {k = k} i) = given (k, h k (Memᴰ.head refl), i)
  ground R f h (applications {k = k} {k' = k'} i i' p q) =
      congruent (k, h k (Memᴰ.head refl), i) (k', h k' (Memᴰ.tail (Memᴰ.head refl)), i') (f _ _ p) (f _ _ q)

  step : (n : ℕ) → ((a b : ℕ) → Linked e m n a b → Follows (Those rs P) a b) → Supported rs e m (suc n)
      → ((k : ℕ) → Memᴰ k (used e m (suc n)) → P k) → T (m n) → Follows (Those rs P) (e n).u (e n).v
  step n f g h o = ground (Linked e m n) f (λ k i. h k (Memᴰ.append_left (used e m n) (keep-in (m n) o i))) (g n (omega arith) o)

  pub linked-follows : (n : ℕ) → Supported rs e m n → ((k : ℕ) → Memᴰ k (used e m n) → P k)
      → (s t : ℕ) → Linked e m n s t → Follows (Those rs P) s t
  linked-follows zero g h s t (here p) = rw p same
  linked-follows (suc n) g h s t p = go (linked-follows n (λ a l. g a (omega arith)) (λ k i. h k (Memᴰ.append_right (keep (m n) (numbers_of (e n).why)) i))) p
    where
      go : ((a b : ℕ) → Linked e m n a b → Follows (Those rs P) a b) → Linked e m (suc n) s t → Follows (Those rs P) s t
      go f (below q) = f _ _ q
      go f (over o q r) = chain (f _ _ q) (chain (step n f g h o) (f _ _ r))
      go f (back o q r) = chain (f _ _ q) (chain (flip (step n f g h o)) (f _ _ r))

-- The same for a whole log.
pub joined-follows : (rs : List Rec) (e : ℕ → Join) (n : ℕ) → Justified rs e n → {s t : ℕ} → Joined e n s t → Follows (Only rs (used e all n)) s t
joined-follows rs e n g = linked-follows rs e all _ n g (λ k i. i) _ _

keep-short : (b : Bool) (w : Why) (n : ℕ) → length (keep b (numbers_of w)) + 2 * n ≤ 2 * tick b n
keep-short true (by k) n = omega arith
keep-short true (cong k k') n = omega arith
keep-short false w n = omega arith

pub used-short : (e : ℕ → Join) (m : ℕ → Bool) (n : ℕ) → length (used e m n) ≤ 2 * count m n
used-short e m zero = omega arith
used-short e m (suc n) = rw length-append (omega (arith, used-short e m n, keep-short (m n) (e n).why (count m n)))
