-- Classes that were built by joins are rings; and each join can be taken back. Assumes nothing.
use Prim.Native.Nat.{ℕ, suc, ◌≤◌, ◌<◌}
use native.Mathlib.Omega.{arith}
use native.Mathlib.Decide.{ℕ_discrete}
use mathlib.Core.Path.{◌≡◌, refl, sym, ap, ◌∙◌, fun_ext}
use mathlib.Core.Logic.{◌≢◌, ◌⊎◌, inl, inr}
use mathlib.Core.Bool.{cond}
use mathlib.Core.List.Memᴰ
use mathlib.Core.List.{List, [], ◌∷◌, ◌++◌, Memᴰ}
use lib.Dec.{eqb}
use lib.ListN.{length}
use borrow.Author.Tests.{eq-eqb, ne_eqb}
use Rattle.meaning.specs.Joins.{put}
use Rattle.meaning.specs.Labels.{into}
use Rattle.meaning.proofs.Log.{put-hit, put-miss}
use Rattle.meaning.proofs.Relabel.{into-hit, into-miss}
use Rattle.list_ways.specs.Rings.{Path, stop, step, Ring, swapped, Apart, Grown, none, more, Built}

-- Paths.
pub path-same : {m h : ℕ → ℕ} {x y : ℕ} {L : List ℕ} → ((z : ℕ) → Memᴰ z L → h z ≡ m z) → Path m x L y → Path h x L y
path-same e (stop p) = stop p
path-same {m} {h} {x} {y} e (step {z = z} {L = L} p q) = step {y = y} {L = L} p (rw (e x (Memᴰ.head p)) (path-same (λ v i. e v (Memᴰ.tail i)) q))

pub path-append : {m : ℕ → ℕ} {x y z : ℕ} {L K : List ℕ} → Path m x L y → Path m y K z → Path m x (L ++ K) z
path-append (stop p) k = rw p k
path-append (step p q) k = step p (path-append q k)

-- Two paths to a tag that neither comes by before are one.
pub path-one : {m : ℕ → ℕ} {x y : ℕ} {L K : List ℕ} → Path m x L y → Path m x K y → (Memᴰ y L → ⊥) → (Memᴰ y K → ⊥) → L ≡ K
path-one (stop p) (stop q) a b = refl
path-one (stop p) (step q r) a b = absurd (b (Memᴰ.head (sym p ∙ q)))
path-one (step p r) (stop q) a b = absurd (a (Memᴰ.head (sym q ∙ p)))
path-one (step {z = u} p r) (step {z = v} q w) a b = let e : u ≡ v = sym p ∙ q in rw (e, path-one r w (λ i. a (Memᴰ.tail i)) (λ i. b (Memᴰ.tail i)))

-- From a tag on a path, the rest of the path.
pub path-from : {m : ℕ → ℕ} {x y : ℕ} {L : List ℕ} (z : ℕ) → Memᴰ z L → Path m x L y → (K : List ℕ) × Path m z (z ∷ K) y × (length K < length L) × ((v : ℕ) → Memᴰ v K → Memᴰ v L)
path-from z i (stop p) = absurd (Memᴰ.not-nil i)
path-from {m} {x} {y} z i (step {z = u} {L = L} p q) = go (λ j. path-from z j q) (Memᴰ.cases_cons i)
  where
    go : (Memᴰ z L → (K : List ℕ) × Path m z (z ∷ K) y × (length K < length L) × ((v : ℕ) → Memᴰ v K → Memᴰ v L)) → (z ≡ u) ⊎ Memᴰ z L
        → (K : List ℕ) × Path m z (z ∷ K) y × (length K < length (u ∷ L)) × ((v : ℕ) → Memᴰ v K → Memᴰ v (u ∷ L))
    go r (inl e) = (L, rw (e, ← p) (step refl q), omega arith, λ v j. Memᴰ.tail j)
    go r (inr j) = let k = r j in (k.0, k.1, omega (arith, k.2), λ v l. Memᴰ.tail (k.3 v l))

-- No path to a tag that it does not come by before comes by another twice.
pub path-once : {m : ℕ → ℕ} {z y : ℕ} {L : List ℕ} → Path m z (z ∷ L) y → (Memᴰ y (z ∷ L) → ⊥) → Memᴰ z L → ⊥
path-once {m} {z} {y} {L} p a i = go p
  where
    go : Path m z (z ∷ L) y → ⊥
    go (step e q) =
        let k = path-from z i q in
        let s : z ∷ L ≡ z ∷ k.0 = path-one p k.1 a (λ j. elim (Memᴰ.cases_cons j) [ inl e ↦ a (Memᴰ.head e) | inr l ↦ a (Memᴰ.tail (k.3 y l)) ]) in
        let t : length (z ∷ L) ≡ length (z ∷ k.0) = ap length s in
        omega (arith, k.2)

-- Exchanging twice is nothing.
pub swap-x : (x y : ℕ) (m : ℕ → ℕ) → swapped x y m x ≡ m y
swap-x x y m = put-hit x (m y) (put y (m x) m)

pub swap-y : (x y : ℕ) (m : ℕ → ℕ) → x ≢ y → swapped x y m y ≡ m x
swap-y x y m d = put-miss x (m y) (put y (m x) m) y (λ e. d (sym e)) ∙ put-hit y (m x) m

pub swap-else : (x y : ℕ) (m : ℕ → ℕ) (z : ℕ) → z ≢ x → z ≢ y → swapped x y m z ≡ m z
swap-else x y m z a b = put-miss x (m y) (put y (m x) m) z a ∙ put-miss y (m x) m z b

pub swap-twice : (x y : ℕ) (m : ℕ → ℕ) → x ≢ y → swapped x y (swapped x y m) ≡ m
swap-twice x y m d = fun_ext (λ z. go z (ℕ_discrete z x) (ℕ_discrete z y))
  where
    go : (z : ℕ) → Dec (z ≡ x) → Dec (z ≡ y) → swapped x y (swapped x y m) z ≡ m z
    go z (yes a) b = rw a (swap-x x y (swapped x y m) ∙ swap-y x y m d)
    go z (no a) (yes b) = rw b (swap-y x y (swapped x y m) d ∙ swap-x x y m)
    go z (no a) (no b) = swap-else x y (swapped x y m) z a b ∙ swap-else x y m z a b

-- A tag by itself.
pub ring-alone : (x : ℕ) → Ring (λ z. z) (λ z. z) x
ring-alone x = record { others = []; path = stop refl; inside = λ z i. absurd (Memᴰ.not-nil i); all = λ z e d. absurd (d e) }

pub apart-flip : {N : ℕ} {f : ℕ → ℕ} {x y : ℕ} → Apart N f x y → Apart N f y x
apart-flip a = record { x-tag = a.y-tag; y-tag = a.x-tag; x-own = a.y-own; y-own = a.x-own; differ = λ e. a.differ (sym e) }

-- The classes of x and y are joined.
module _ {N : ℕ} {f : ℕ → ℕ} {x y : ℕ} (a : Apart N f x y) where
  pub joined-x : (z : ℕ) → f z ≡ x → into y x (f z) ≡ y
  joined-x z e = rw e (into-hit y x)

  pub joined-else : (z : ℕ) → f z ≢ x → into y x (f z) ≡ f z
  joined-else z e = into-miss y x (f z) e

  -- Other tags of other classes are neither x nor y.
  far : (v z : ℕ) → f z ≡ v → z ≢ v → (z ≢ x) × (z ≢ y)
  far v z e d = ((λ q. d (q ∙ sym a.x-own ∙ sym (ap f q) ∙ e)), λ q. d (q ∙ sym a.y-own ∙ sym (ap f q) ∙ e))

  next-same : (m : ℕ → ℕ) (v z : ℕ) → f z ≡ v → z ≢ v → swapped x y m z ≡ m z
  next-same m v z e d = let n = far v z e d in swap-else x y m z n.0 n.1

  pub ring-both : (m : ℕ → ℕ) → Ring f m x → Ring f m y → Ring (λ z. into y x (f z)) (swapped x y m) y
  ring-both m p q = record {
    others = p.others ++ (x ∷ q.others);
    path = rw (swap-y x y m a.differ) (path-append (path-same (λ z i. next-same m x z (p.inside z i).0 (p.inside z i).1) p.path) after);
    inside = λ z i. elim (Memᴰ.append_cases p.others i) [ inl j ↦ from z j | inr j ↦ onto z (Memᴰ.cases_cons j) ];
    all = λ z e d. every z e d (ℕ_discrete (f z) x) (ℕ_discrete z x);
  }
    where
      after : Path (swapped x y m) x (x ∷ q.others) y
      after = step {x = x} {y = y} {L = q.others} refl (rw (swap-x x y m) (path-same (λ z i. next-same m y z (q.inside z i).0 (q.inside z i).1) q.path))

      from : (z : ℕ) → Memᴰ z p.others → (into y x (f z) ≡ y) × (z ≢ y)
      from z j = (joined-x z (p.inside z j).0, (far x z (p.inside z j).0 (p.inside z j).1).1)

      onto : (z : ℕ) → (z ≡ x) ⊎ Memᴰ z q.others → (into y x (f z) ≡ y) × (z ≢ y)
      onto z (inl e) = (joined-x z (ap f e ∙ a.x-own), λ h. a.differ (sym e ∙ h))
      onto z (inr j) = (joined-else z (λ e. a.differ (sym e ∙ (q.inside z j).0)) ∙ (q.inside z j).0, (q.inside z j).1)

      every : (z : ℕ) → into y x (f z) ≡ y → z ≢ y → Dec (f z ≡ x) → Dec (z ≡ x) → Memᴰ z (p.others ++ (x ∷ q.others))
      every z e d h (yes k) = Memᴰ.append_right p.others (Memᴰ.head k)
      every z e d (yes h) (no k) = Memᴰ.append_left (x ∷ q.others) (p.all z h k)
      every z e d (no h) (no k) = Memᴰ.append_right p.others (Memᴰ.tail (q.all z (sym (joined-else z h) ∙ e) d))

  pub ring-else : (m : ℕ → ℕ) (v : ℕ) → v ≢ x → v ≢ y → Ring f m v → Ring (λ z. into y x (f z)) (swapped x y m) v
  ring-else m v c d p = record {
    others = p.others;
    path = rw (swap-else x y m v c d) (path-same (λ z i. next-same m v z (p.inside z i).0 (p.inside z i).1) p.path);
    inside = λ z i. (joined-else z (λ e. c (sym (p.inside z i).0 ∙ e)) ∙ (p.inside z i).0, (p.inside z i).1);
    all = λ z e n. every z e n (ℕ_discrete (f z) x);
  }
    where
      every : (z : ℕ) → into y x (f z) ≡ v → z ≢ v → Dec (f z ≡ x) → Memᴰ z p.others
      every z e n (yes h) = absurd (d (sym e ∙ joined-x z h))
      every z e n (no h) = p.all z (sym (joined-else z h) ∙ e) n

  -- The label x is given back to those that had it.
  pub parted : (z : ℕ) → cond (eqb (f z) x) x (into y x (f z)) ≡ f z
  parted z = go (ℕ_discrete (f z) x)
    where
      go : Dec (f z ≡ x) → cond (eqb (f z) x) x (into y x (f z)) ≡ f z
      go (yes e) = rw (eq-eqb (f z) x e) (sym e)
      go (no e) = rw (ne_eqb (f z) x e)

-- What was built.
pub record Classes (N : ℕ) (f m : ℕ → ℕ) : Type 0 where
  pub flat : (x : ℕ) → f (f x) ≡ f x
  pub own : (x : ℕ) → N ≤ x → f x ≡ x
  pub low : (x : ℕ) → x < N → f x < N
  pub ring : (x : ℕ) → f x ≡ x → Ring f m x

classes-more : {N : ℕ} {f m : ℕ → ℕ} {x y : ℕ} → Apart N f x y → Classes N f m → Classes N (λ z. into y x (f z)) (swapped x y m)
classes-more {N} {f} {m} {x} {y} a c = record {
  flat = λ z. flat z (ℕ_discrete (f z) x);
  own = λ z l. joined-else a z (λ e. omega (arith, c.own z l, a.x-tag)) ∙ c.own z l;
  low = λ z l. low z l (ℕ_discrete (f z) x);
  ring = λ v e. ring v e (ℕ_discrete v x) (ℕ_discrete v y);
}
  where
    hit : (z : ℕ) → f z ≡ x → into y x (f z) ≡ y
    hit = joined-x a

    miss : (z : ℕ) → f z ≢ x → into y x (f z) ≡ f z
    miss = joined-else a

    flat : (z : ℕ) → Dec (f z ≡ x) → into y x (f (into y x (f z))) ≡ into y x (f z)
    flat z (yes e) = rw (hit z e, a.y-own) (into-miss y x y (λ q. a.differ (sym q)))
    flat z (no e) = rw (miss z e, c.flat z) (into-miss y x (f z) e)

    low : (z : ℕ) → z < N → Dec (f z ≡ x) → into y x (f z) < N
    low z l (yes e) = rw (hit z e) a.y-tag
    low z l (no e) = rw (miss z e) (c.low z l)

    ring : (v : ℕ) → into y x (f v) ≡ v → Dec (v ≡ x) → Dec (v ≡ y) → Ring (λ z. into y x (f z)) (swapped x y m) v
    ring v e (yes h) k = absurd (a.differ (sym h ∙ sym e ∙ hit v (ap f h ∙ a.x-own)))
    ring v e (no h) (yes k) = rw k (ring-both a m (c.ring x a.x-own) (c.ring y a.y-own))
    ring v e (no h) (no k) = ring-else a m v h k (c.ring v (still (ℕ_discrete (f v) x)))
      where
        still : Dec (f v ≡ x) → f v ≡ v
        still (yes q) = absurd (k (sym e ∙ hit v q))
        still (no q) = sym (miss v q) ∙ e

pub grown-classes : {N k : ℕ} {tr f m : ℕ → ℕ} {k' : ℕ} {f' m' : ℕ → ℕ} → Classes N f m → Grown N tr k f m k' f' m' → Classes N f' m'
grown-classes c (none p q r) = rw (q, r) c
grown-classes c (more y g a p q r) = rw (q, r) (classes-more a (grown-classes c g))

pub built-classes : {N k : ℕ} {tr f m : ℕ → ℕ} → Built N tr k f m → Classes N f m
built-classes = grown-classes (record { flat = λ x. refl; own = λ x l. refl; low = λ x l. l; ring = λ x e. ring-alone x })

-- Joins are counted, and a trail is only read up to the last of them.
pub grown-up : {N k : ℕ} {tr f m : ℕ → ℕ} {k' : ℕ} {f' m' : ℕ → ℕ} → Grown N tr k f m k' f' m' → k ≤ k'
grown-up (none p q r) = omega arith
grown-up (more y g a p q r) = omega (arith, grown-up g)

pub grown-trail : {N k : ℕ} {tr tr' f m : ℕ → ℕ} {k' : ℕ} {f' m' : ℕ → ℕ} → ((j : ℕ) → j < k' → tr' j ≡ tr j) → Grown N tr k f m k' f' m' → Grown N tr' k f m k' f' m'
grown-trail e (none p q r) = none p q r
grown-trail {tr = tr} {tr' = tr'} {k' = k'} {f' = f'} {m' = m'} e (more {j = j} {g = g} {h = h} y G a p q r) =
    let z : tr' j ≡ tr j = e j (omega arith) in
    more {f' = f'} {m' = m'} y (grown-trail (λ i l. e i (omega arith)) G) (rw z a) p (rw z q) (rw z r)

pub grown-then : {N k k' : ℕ} {tr f m f' m' : ℕ → ℕ} {k'' : ℕ} {f'' m'' : ℕ → ℕ} → Grown N tr k f m k' f' m' → Grown N tr k' f' m' k'' f'' m'' → Grown N tr k f m k'' f'' m''
grown-then g (none p q r) = rw (p, q, r) g
grown-then g (more y h a p q r) = more y (grown-then g h) a p q r

-- What was one class stays one.
pub grown-level : {N k x y : ℕ} {tr f m : ℕ → ℕ} {k' : ℕ} {f' m' : ℕ → ℕ} → Grown N tr k f m k' f' m' → f x ≡ f y → f' x ≡ f' y
grown-level (none p q r) e = rw q e
grown-level {tr = tr} (more {j = j} z g a p q r) e = rw q (ap (into z (tr j)) (grown-level g e))

-- Nothing was joined.
pub grown-none : {N k : ℕ} {tr f m f' m' : ℕ → ℕ} → Grown N tr k f m k f' m' → (f' ≡ f) × (m' ≡ m)
grown-none (none p q r) = (q, r)
grown-none (more y g a p q r) = absurd (omega (arith, grown-up g))

-- The last join, where there is one.
pub record Last (N : ℕ) (tr : ℕ → ℕ) (k : ℕ) (f m : ℕ → ℕ) (j : ℕ) (f' m' : ℕ → ℕ) : Type 0 where
  pub to : ℕ
  pub labels : ℕ → ℕ
  pub nexts : ℕ → ℕ
  pub before : Grown N tr k f m j labels nexts
  pub apart : Apart N labels (tr j) to
  pub labels-are : f' ≡ (λ z. into to (tr j) (labels z))
  pub nexts-are : m' ≡ swapped (tr j) to nexts

pub grown-last : {N k j : ℕ} {tr f m f' m' : ℕ → ℕ} → k ≤ j → Grown N tr k f m (suc j) f' m' → Last N tr k f m j f' m'
grown-last l (none p q r) = absurd (omega arith)
grown-last {N} {k} {j} {tr} {f} {m} {f'} {m'} l (more {j = i} {g = g} {h = h} y G a p q r) =
    let e : i ≡ j = omega arith in
    record { to = y; labels = g; nexts = h; before = rw e at G; apart = rw e at a; labels-are = rw e at q; nexts-are = rw e at r }
