-- Where the label hi becomes the smaller lo, the tags of both classes and no others come together, hi is the one tag that no longer labels
-- itself, and the labels still agree with the log. Assumes nothing.
use Prim.Native.Nat.{ℕ, zero, suc, ◌≤◌, ◌<◌}
use native.Mathlib.Omega.{arith}
use native.Mathlib.Decide.{ℕ_discrete}
use mathlib.Core.Path.{◌≡◌, refl, sym, ◌∙◌, ap}
use mathlib.Core.Logic.{◌≢◌, ◌⊎◌, inl, inr}
use mathlib.Core.Bool.{Bool, true, false}
use mathlib.Core.List.{List, [], ◌∷◌, map}
use lib.Dec.{eqb}
use borrow.Author.Tests.{eq-eqb, ne_eqb}
use lib.ListN.{length, get_or, length-map, get_or-map}
use Rattle.meaning.specs.Joins.{Join, Joined, here, below, over, back, count, tick}
use Rattle.meaning.proofs.Log.{linked-same}
use Rattle.meaning.specs.Labels.{Labels, into, classes, Agree, label_of}

pub count_same : (p q : ℕ → Bool) (n : ℕ) → ((x : ℕ) → x < n → p x ≡ q x) → count p n ≡ count q n
count_same p q zero h = refl
count_same p q (suc n) h = rw (h n (omega arith), count_same p q n (λ x l. h x (omega arith)))

up : (b : Bool) (n : ℕ) → tick b (suc n) ≡ suc (tick b n)
up true n = refl
up false n = refl

pub count-less-one : (p q : ℕ → Bool) (h : ℕ) → p h ≡ true → q h ≡ false → ((x : ℕ) → x ≢ h → p x ≡ q x) → (n : ℕ) → h < n → count p n ≡ suc (count q n)
count-less-one p q h a b e zero l = absurd (omega arith)
count-less-one p q h a b e (suc n) l = go (count-less-one p q h a b e n) (ℕ_discrete n h)
  where
    go : (h < n → count p n ≡ suc (count q n)) → Dec (n ≡ h) → tick (p n) (count p n) ≡ suc (tick (q n) (count q n))
    go f (yes i) = rw (i, a, b, count_same p q h (λ x l'. e x (omega arith)))
    go f (no i) = rw (e n i, f (omega arith)) (up (q n) (count q n))

pub into-hit : (lo hi : ℕ) → into lo hi hi ≡ lo
into-hit lo hi = rw (eq-eqb hi hi refl)

pub into-miss : (lo hi y : ℕ) → y ≢ hi → into lo hi y ≡ y
into-miss lo hi y p = rw (ne_eqb y hi p)

-- Labels that are equal after were equal before, or come one from each side.
pub into-same : (lo hi u v : ℕ) → into lo hi u ≡ into lo hi v → (u ≡ v) ⊎ (((u ≡ lo) × (v ≡ hi)) ⊎ ((u ≡ hi) × (v ≡ lo)))
into-same lo hi u v e = go (ℕ_discrete u hi) (ℕ_discrete v hi)
  where
    go : Dec (u ≡ hi) → Dec (v ≡ hi) → (u ≡ v) ⊎ (((u ≡ lo) × (v ≡ hi)) ⊎ ((u ≡ hi) × (v ≡ lo)))
    go (yes p) (yes q) = inl (p ∙ sym q)
    go (yes p) (no q) = inr (inr (p, cc (into-hit lo hi, into-miss lo hi v q)))
    go (no p) (yes q) = inr (inl (cc (into-hit lo hi, into-miss lo hi u p), q))
    go (no p) (no q) = inl (cc (into-miss lo hi u p, into-miss lo hi v q))

module _ (f : ℕ → ℕ) (lo hi : ℕ) (L : Labels f) (own : f lo ≡ lo) (own' : f hi ≡ hi) (less : lo < hi) where
  pub relabel-labels : Labels (λ x. into lo hi (f x))
  relabel-labels = record { low = λ x. low x (ℕ_discrete (f x) hi); flat = λ x. flat x (ℕ_discrete (f x) hi) }
    where
      low : (x : ℕ) → Dec (f x ≡ hi) → into lo hi (f x) ≤ x
      low x (yes p) = rw (p, into-hit lo hi) (omega (arith, L.low x))
      low x (no p) = rw (into-miss lo hi (f x) p) (L.low x)

      flat : (x : ℕ) → Dec (f x ≡ hi) → into lo hi (f (into lo hi (f x))) ≡ into lo hi (f x)
      flat x (yes p) = rw (p, into-hit lo hi, own, into-miss lo hi lo (omega arith))
      flat x (no p) = rw (into-miss lo hi (f x) p, L.flat x, into-miss lo hi (f x) p)

  pub relabel-classes : (N : ℕ) → hi < N → classes f N ≡ suc (classes (λ x. into lo hi (f x)) N)
  relabel-classes N l = count-less-one (λ x. eqb (f x) x) (λ x. eqb (into lo hi (f x)) x) hi (eq-eqb (f hi) hi own') (rw (own', into-hit lo hi) (ne_eqb lo hi (omega arith))) (λ x n. go x n (ℕ_discrete (f x) hi)) N l
    where
      go : (x : ℕ) → x ≢ hi → Dec (f x ≡ hi) → eqb (f x) x ≡ eqb (into lo hi (f x)) x
      go x n (yes p) = rw (p, into-hit lo hi, ne_eqb hi x (omega arith), ne_eqb lo x (λ e. let z : lo ≡ hi = cc in omega arith))
      go x n (no p) = rw (into-miss lo hi (f x) p)

-- The join leads from the class of lo to that of hi, or back.
abbrev pub Ends : (ℕ → ℕ) → ℕ → ℕ → Join → Type 0
Ends f lo hi j = ((f j.u ≡ lo) × (f j.v ≡ hi)) ⊎ ((f j.u ≡ hi) × (f j.v ≡ lo))

-- The labels follow the log through a join of the two classes.
module _ (e : ℕ → Join) (n : ℕ) (f : ℕ → ℕ) (A : Agree e n f) (lo hi : ℕ) (less : lo < hi) where
  pub relabel-agree : Ends f lo hi (e n) → Agree e (suc n) (λ x. into lo hi (f x))
  relabel-agree h = record { labels = λ x y. labels x y (bridge h); joins = λ x y p. joins x y (into-same lo hi (f x) (f y) p) h }
    where
      bridge : Ends f lo hi (e n) → into lo hi (f (e n).u) ≡ into lo hi (f (e n).v)
      bridge (inl h) = rw (h.0, h.1, into-hit lo hi, into-miss lo hi lo (omega arith))
      bridge (inr h) = rw (h.0, h.1, into-hit lo hi, into-miss lo hi lo (omega arith))

      labels : (x y : ℕ) → into lo hi (f (e n).u) ≡ into lo hi (f (e n).v) → Joined e (suc n) x y → into lo hi (f x) ≡ into lo hi (f y)
      labels x y h (below p) = ap (into lo hi) (A.labels x y p)
      labels x y h (over o p q) = ap (into lo hi) (A.labels x (e n).u p) ∙ h ∙ ap (into lo hi) (A.labels (e n).v y q)
      labels x y h (back o p q) = ap (into lo hi) (A.labels x (e n).v p) ∙ sym h ∙ ap (into lo hi) (A.labels (e n).u y q)

      joins : (x y : ℕ) → (f x ≡ f y) ⊎ (((f x ≡ lo) × (f y ≡ hi)) ⊎ ((f x ≡ hi) × (f y ≡ lo))) → Ends f lo hi (e n) → Joined e (suc n) x y
      joins x y (inl p) h = below (A.joins x y p)
      joins x y (inr (inl p)) (inl h) = over tt (A.joins x (e n).u (cc)) (A.joins (e n).v y (cc))
      joins x y (inr (inl p)) (inr h) = back tt (A.joins x (e n).v (cc)) (A.joins (e n).u y (cc))
      joins x y (inr (inr p)) (inl h) = back tt (A.joins x (e n).v (cc)) (A.joins (e n).u y (cc))
      joins x y (inr (inr p)) (inr h) = over tt (A.joins x (e n).u (cc)) (A.joins (e n).v y (cc))

pub agree_same : {e e' : ℕ → Join} {n : ℕ} {f f' : ℕ → ℕ} → ((a : ℕ) → a < n → e a ≡ e' a) → ((x : ℕ) → f' x ≡ f x) → Agree e n f → Agree e' n f'
agree_same g h A = record {
  labels = λ x y p. h x ∙ A.labels x y (linked-same (λ a l. sym (g a l)) p) ∙ sym (h y);
  joins = λ x y p. linked-same g (A.joins x y (sym (h x) ∙ p ∙ h y));
}

pub start-agree : (e : ℕ → Join) → Agree e 0 (λ x. x)
start-agree e = record { labels = λ x y p. elim p [ here q ↦ q ]; joins = λ x y q. here q }

pub start-classes : (N : ℕ) → classes (λ x. x) N ≡ N
start-classes zero = refl
start-classes (suc n) = rw (eq-eqb n n refl, start-classes n)

-- Within the list the default plays no part.
pub get_d_any : (l : List ℕ) (n d d' : ℕ) → n < length l → get_or l n d ≡ get_or l n d'
get_d_any [] n d d' h = absurd (omega arith)
get_d_any (x ∷ l) zero d d' h = refl
get_d_any (x ∷ l) (suc n) d d' h = get_d_any l n d d' (omega arith)

-- A list that holds a labelling is relabelled by a map.
pub label_of-map : (lo hi : ℕ) (l : List ℕ) → hi < length l → (x : ℕ) → label_of (map (into lo hi) l) x ≡ into lo hi (label_of l x)
label_of-map lo hi l h x = go (ℕ_discrete x hi)
  where
    long : length (map (into lo hi) l) ≡ length l
    long = length-map l (into lo hi)

    go : Dec (x ≡ hi) → label_of (map (into lo hi) l) x ≡ into lo hi (label_of l x)
    go (yes i) = get_d_any (map (into lo hi) l) x x (into lo hi x) (omega (arith, long)) ∙ get_or-map (into lo hi) l x x
    go (no i) = rw (into-miss lo hi x i) at (get_or-map (into lo hi) l x x)
