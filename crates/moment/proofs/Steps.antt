-- The steps of the three loops of a climb by depth, with the numbers as the code holds them. Assumes nothing.
use Prim.Native.Nat.{ℕ, zero, suc, ◌+◌, ◌-◌, ◌≤◌, ◌<◌, max}
use native.Mathlib.Omega.{arith}
use native.Mathlib.Decide.{dec_lt}
use mathlib.Core.Path.{◌≡◌, refl, sym, ◌∙◌, ap}
use mathlib.Core.Logic.{◌≢◌, ◌⊎◌, inl, inr}
use mathlib.Core.List.{List}
use Rattle.meaning.specs.Limits.{most_tags}
use Rattle.table.specs.Map.{parent_of, age_of}
use Rattle.moment.specs.Meeting.{Forested}
use Rattle.moment.specs.Deep.{Depth, leads, linked, DepthIn, up, Climbed, Last, Lifted, Compared, Raised, Beside, Paired, MetBefore}
use Rattle.moment.proofs.Deep.{climb-begin, climb-on, meet-both, meet-never, meet_one, newest-flip}

-- Every tag has a depth, since links lead down.
depth-of : {w : List ℕ} → Forested w → (top : ℕ) → top ≤ most_tags → (n x : ℕ) → x ≤ n → (d : ℕ) × DepthIn w top x d
depth-of {w} f top u zero x l = go (dec_lt (age_of w x) top)
  where
    go : Dec (age_of w x < top) → (d : ℕ) × DepthIn w top x d
    go (yes k) = absurd (omega (arith, f.links.down x (omega arith)))
    go (no k) = (0, leads {x = x} (omega arith))
depth-of {w} f top u (suc n) x l = go (depth-of f top u n (parent_of w x)) (dec_lt (age_of w x) top)
  where
    go : (parent_of w x ≤ n → (d : ℕ) × DepthIn w top (parent_of w x) d) → Dec (age_of w x < top) → (d : ℕ) × DepthIn w top x d
    go r (yes k) = let b = r (omega (arith, f.links.down x (omega arith))) in (suc b.0, linked k b.1)
    go r (no k) = (0, leads {x = x} (omega arith))

-- Both have climbed as many links.
pub record Comparing (w : List ℕ) (top s t x y : ℕ) : Type 0 where
  pub x-tag : x < most_tags
  pub y-tag : y < most_tags
  pub links : ℕ
  pub one : (m : ℕ) → DepthIn w top x m → DepthIn w top s (links + m)
  pub other : (m : ℕ) → DepthIn w top y m → DepthIn w top t (links + m)

pub compare-start : (w : List ℕ) (top s t : ℕ) → s < most_tags → t < most_tags → Comparing w top s t s t
compare-start w top s t l l' = record { x-tag = l; y-tag = l'; links = 0; one = none s; other = none t }
  where
    none : (x m : ℕ) → DepthIn w top x m → DepthIn w top x (0 + m)
    none x m h = let e : 0 + m ≡ m = omega arith in rw e h

pub compare-step : {w : List ℕ} {top s t x y u v : ℕ} → Forested w → top ≤ most_tags → Comparing w top s t x y → age_of w x < top → age_of w y < top → u ≡ parent_of w x → v ≡ parent_of w y
    → (u < x) × Comparing w top s t u v
compare-step {w} {top} {s} {t} {x} {y} {u} {v} f low c l l' eu ev =
    let d : parent_of w x < x = f.links.down x (omega arith) in
    let d' : parent_of w y < y = f.links.down y (omega arith) in (
      omega arith,
      record {
        x-tag = omega (arith, c.x-tag);
        y-tag = omega (arith, c.y-tag);
        links = c.links + 1;
        one = λ m h. let q : c.links + 1 + m ≡ c.links + suc m = omega arith in rw q (c.one (suc m) (linked l (rw eu at h)));
        other = λ m h. let q : c.links + 1 + m ≡ c.links + suc m = omega arith in rw q (c.other (suc m) (linked l' (rw ev at h)));
      },
    )

compare-end : {w : List ℕ} {top s t x y near far : ℕ} → Comparing w top s t x y → DepthIn w top x near → DepthIn w top y far → (near ≡ 0) ⊎ (far ≡ 0) → Compared w top s t x y
compare-end {near = near} {far = far} c h k z =
    record { x-tag = c.x-tag; y-tag = c.y-tag; links = c.links; near = near; far = far; one = c.one near h; other = c.other far k; x-left = h; y-left = k; shallow = z }

pub compare-near : {w : List ℕ} {top s t x y : ℕ} → Forested w → top ≤ most_tags → Comparing w top s t x y → top ≤ age_of w x → Compared w top s t x y
compare-near {y = y} f u c l = compare-end c (leads l) (depth-of f _ u y y (omega arith)).1 (inl refl)

pub compare-far : {w : List ℕ} {top s t x y : ℕ} → Forested w → top ≤ most_tags → Comparing w top s t x y → top ≤ age_of w y → Compared w top s t x y
compare-far {x = x} f u c l = compare-end c (depth-of f _ u x x (omega arith)).1 (leads l) (inr refl)

depth-some : {p g : ℕ → ℕ} {top x k : ℕ} → Depth p g top x k → g x < top → (j : ℕ) × (k ≡ suc j)
depth-some (leads h) l = absurd (omega arith)
depth-some (linked {d = d} h D) l = (d, refl)

depth-none : {p g : ℕ → ℕ} {top x k : ℕ} → Depth p g top x k → top ≤ g x → k ≡ 0
depth-none (leads h) l = refl
depth-none (linked h D) l = absurd (omega arith)

some-link : {p g : ℕ → ℕ} {top x j : ℕ} → Depth p g top x (suc j) → g x < top
some-link (linked h D) = h

next-depth : {p g : ℕ → ℕ} {top x j : ℕ} → Depth p g top x (suc j) → Depth p g top (p x) j
next-depth (linked h D) = D

-- Lifting: the climb from s stands on y, of depth n.
pub record Lifting (w : List ℕ) (top s from to y n newest : ℕ) : Type 0 where
  pub tag : y < most_tags
  pub climbed : Climbed (parent_of w) (age_of w) top s from y n
  pub none : n ≡ from → newest ≡ 0
  pub stays : n < from → to ≤ n
  pub last : n < from → Last (parent_of w) (age_of w) top s from y n newest

pub lift-start : {w : List ℕ} {top s from : ℕ} (to : ℕ) → Forested w → top ≤ most_tags → s < most_tags → DepthIn w top s from → Lifting w top s from to s from 0
lift-start to f u l D = record { tag = l; climbed = climb-begin _ _ f.links _ u D; none = λ e. refl; stays = λ k. absurd (omega arith); last = λ k. absurd (omega arith) }

pub lift-step : {w : List ℕ} {top s from to y n newest a z m : ℕ} → Forested w → top ≤ most_tags → Lifting w top s from to y n newest → to < n → a ≡ age_of w y → z ≡ parent_of w y → m ≡ n - 1 → Lifting w top s from to z m a
lift-step {w} {top} {s} {from} {to} {y} {n} {newest} {a} {z} {m} f u h l ea ez em =
    let q : n ≡ suc m = omega arith in
    let c : Climbed (parent_of w) (age_of w) top s from y (suc m) = rw q at h.climbed in
    let g : age_of w y < top = some-link c.to in
    record {
      tag = omega (arith, h.tag, f.links.down y (omega arith));
      climbed = rw ez (climb-on _ _ f.links _ u c);
      none = λ e. absurd (omega (arith, e, c.sum));
      stays = λ k. omega arith;
      last = λ k. record { before = y; climbed = c; on = sym ez; age = sym ea };
    }

lift-stood : {w : List ℕ} {top s from to y n newest : ℕ} → Lifting w top s from to y n newest → n ≤ to → from ≤ to → (y ≡ s) × (newest ≡ 0)
lift-stood {w} {top} {s} {from} {to} {y} {n} {newest} h l k = let e : n ≡ from = full (dec_lt n from) in (stood e h.climbed.steps refl, h.none e)
  where
    full : Dec (n < from) → n ≡ from
    full (yes j) = absurd (omega (arith, h.stays j))
    full (no j) = omega (arith, h.climbed.sum)

    stood : n ≡ from → (i : ℕ) → h.climbed.steps ≡ i → y ≡ s
    stood e zero q = sym h.climbed.there ∙ ap (λ (j : ℕ). up (parent_of w) j s) q
    stood e (suc i) q = absurd (omega (arith, h.climbed.sum, q, e))

lift-last : {w : List ℕ} {top s from to y n newest : ℕ} → Lifting w top s from to y n newest → n ≤ to → to < from → Last (parent_of w) (age_of w) top s from y to newest
lift-last {to = to} {n = n} h l k = let e : n ≡ to = omega (arith, h.stays (omega arith)) in rw e at (h.last (omega arith))

pub lift-end : {w : List ℕ} {top s from to y n newest : ℕ} → Lifting w top s from to y n newest → n ≤ to → Lifted w top s from to y newest
lift-end h l = record { tag = h.tag; still = lift-stood h l; last = lift-last h l }

-- One climber has so many links left, and the other is as many short of the depth that it is lifted to.
pub record Raising (w : List ℕ) (top s from to y x newest : ℕ) : Type 0 where
  pub rest : ℕ
  pub left : DepthIn w top y rest
  pub lifting : Lifting w top s from to x (to + rest) newest

-- Whatever the two depths are.
pub record RaisingAll (w : List ℕ) (top s y₀ y x newest : ℕ) : Type 0 where
  pub tag : y < most_tags
  pub raising : (more rest : ℕ) → DepthIn w top s (more + rest) → DepthIn w top y₀ rest → Raising w top s (more + rest) more y x newest

pub raise-start : {w : List ℕ} {top s y : ℕ} → Forested w → top ≤ most_tags → s < most_tags → y < most_tags → RaisingAll w top s y y s 0
raise-start f u l k = record { tag = k; raising = λ more rest D E. record { rest = rest; left = E; lifting = lift-start more f u l D } }

raise-on : {w : List ℕ} {top s from to y x newest a z v : ℕ} → Forested w → top ≤ most_tags → Raising w top s from to y x newest → age_of w y < top → a ≡ age_of w x → z ≡ parent_of w x → v ≡ parent_of w y
    → Raising w top s from to v z a
raise-on {w} {top} {s} {from} {to} {y} {x} {newest} {a} {z} {v} f u h l ea ez ev =
    let i = depth-some h.left l in
    let E : DepthIn w top y (suc i.0) = rw i.1 at h.left in
    let L : Lifting w top s from to x (to + suc i.0) newest = rw i.1 at h.lifting in
    record { rest = i.0; left = rw ev (next-depth E); lifting = lift-step f u L (omega arith) ea ez (omega arith) }

pub raise-step : {w : List ℕ} {top s y₀ y x newest a z v : ℕ} → Forested w → top ≤ most_tags → RaisingAll w top s y₀ y x newest → age_of w y < top → a ≡ age_of w x → z ≡ parent_of w x → v ≡ parent_of w y
    → (v < y) × RaisingAll w top s y₀ v z a
raise-step {w} {y = y} f u h l ea ez ev =
    let d : parent_of w y < y = f.links.down y (omega arith) in
    (omega arith, record { tag = omega (arith, h.tag); raising = λ more rest D E. raise-on f u (h.raising more rest D E) l ea ez ev })

pub raise-end : {w : List ℕ} {top s y₀ y x newest : ℕ} → RaisingAll w top s y₀ y x newest → top ≤ age_of w y → Raised w top s y₀ x newest
raise-end h l = record { lifted = λ more rest D E. let r = h.raising more rest D E in let z = depth-none r.left l in lift-end r.lifting (omega (arith, z)) }

module _ {w : List ℕ} {top : ℕ} (f : Forested w) (under : top ≤ most_tags) where
  abbrev p : ℕ → ℕ
  p = parent_of w

  abbrev g : ℕ → ℕ
  g = age_of w

  there : {u c j z b : ℕ} → Last p g top u c z j b → Climbed p g top u c z j
  there h = rw h.on at (climb-on p g f.links top under h.climbed)

  -- Either of two climbs may be named first.
  beside-flip : {s t x y newest : ℕ} → Beside w top s t x y newest → Beside w top t s y x newest
  beside-flip h = record { x-tag = h.y-tag; y-tag = h.x-tag; d = h.e; e = h.d; k = h.k; one = h.other; other = h.one; met = λ q. newest-flip p g f.links top under (h.met (sym q)) }

  -- The first is the deeper one, so that it alone is lifted.
  beside-deeper : {s t d e k x y n m newest : ℕ} → DepthIn w top t e → Lifted w top s d k x n → Lifted w top t e k y m → k < d → e ≡ k → newest ≡ max n m → Beside w top s t x y newest
  beside-deeper {s} {t} {d} {e} {k} {x} {y} {n} {m} {newest} E L M l j q =
      let h = L.last l in
      let r = M.still (omega arith) in
      let i : newest ≡ n = omega (arith, r.1) in
      let E' : DepthIn w top t k = rw j at E in
      record {
        x-tag = L.tag;
        y-tag = M.tag;
        d = d;
        e = k;
        k = k;
        one = there h;
        other = rw r.0 (climb-begin p g f.links top under E');
        met = λ o. let h' : Last p g top s d t k n = rw (o ∙ r.0) at h in rw i (meet_one p g f.links top under h' E');
      }

  beside-start : {s t d e k x y n m newest : ℕ} → s ≢ t → DepthIn w top s d → DepthIn w top t e → k ≤ d → k ≤ e → (k ≡ d) ⊎ (k ≡ e) → Lifted w top s d k x n → Lifted w top t e k y m → newest ≡ max n m
      → Beside w top s t x y newest
  beside-start {s} {t} {d} {e} {k} {x} {y} {n} {m} {newest} apart D E a b z L M q = go (dec_lt k d) (dec_lt k e)
    where
      go : Dec (k < d) → Dec (k < e) → Beside w top s t x y newest
      go (yes l) (yes l') = elim z [ inl i ↦ absurd (omega arith) | inr i ↦ absurd (omega arith) ]
      go (yes l) (no l') = beside-deeper E L M l (omega arith) q
      go (no l) (yes l') = beside-flip (beside-deeper D M L l' (omega arith) (omega arith))
      go (no l) (no l') =
          let r = L.still (omega arith) in
          let r' = M.still (omega arith) in
          let i : d ≡ k = omega arith in
          let j : e ≡ k = omega arith in
          record {
            x-tag = L.tag;
            y-tag = M.tag;
            d = k;
            e = k;
            k = k;
            one = rw r.0 (climb-begin p g f.links top under (rw i at D));
            other = rw r'.0 (climb-begin p g f.links top under (rw j at E));
            met = λ o. absurd (apart (sym r.0 ∙ o ∙ r'.0));
          }

  pub beside-compared : {s t u v x y n m newest : ℕ} → s ≢ t → Compared w top s t u v → Raised w top s u x n → Raised w top t v y m → newest ≡ max n m → Beside w top s t x y newest
  beside-compared apart C L M q =
      beside-start apart C.one C.other (omega arith) (omega arith) (elim C.shallow [ inl i ↦ inl (omega arith) | inr i ↦ inr (omega arith) ])
      (L.lifted C.links C.near C.one C.x-left) (M.lifted C.links C.far C.other C.y-left) q

  pub beside-step : {s t x y newest a b u v m : ℕ} → Beside w top s t x y newest → x ≢ y → a ≡ age_of w x → b ≡ age_of w y → a < top → m ≡ max a b → u ≡ parent_of w x → v ≡ parent_of w y → (u < x) × Beside w top s t u v m
  beside-step {s} {t} {x} {y} {newest} {a} {b} {u} {v} {m} h n ea eb l em eu ev =
      let i = depth-some h.one.to (omega arith) in
      let c : Climbed p g top s h.d x (suc i.0) = rw i.1 at h.one in
      let c' : Climbed p g top t h.e y (suc i.0) = rw i.1 at h.other in
      let down : p x < x = f.links.down x (omega (arith, some-link c.to, under)) in
      let down' : p y < y = f.links.down y (omega (arith, some-link c'.to, under)) in (
        omega arith,
        record {
          x-tag = omega (arith, h.x-tag);
          y-tag = omega (arith, h.y-tag);
          d = h.d;
          e = h.e;
          k = i.0;
          one = rw eu (climb-on p g f.links top under c);
          other = rw ev (climb-on p g f.links top under c');
          met = λ q. meet-both p g f.links top under c c' n (sym eu ∙ q ∙ ev) m (omega arith);
        },
      )

  pub beside-never : {s t x y newest a : ℕ} → Beside w top s t x y newest → x ≢ y → a ≡ age_of w x → top ≤ a → MetBefore w top s t top
  beside-never {s} {t} {x} {y} {newest} {a} h n ea l =
      let z : h.k ≡ 0 = depth-none h.one.to (omega arith) in
      let c : Climbed p g top s h.d x 0 = rw z at h.one in
      let c' : Climbed p g top t h.e y 0 = rw z at h.other in
      record { most = omega arith; joined = λ k. absurd (omega arith); apart = λ b k. meet-never p g f.links top under c c' n b k }

  pub beside_end : {s t x y newest : ℕ} → Beside w top s t x y newest → x ≡ y → MetBefore w top s t newest
  beside_end h q = let m = h.met q in record { most = omega (arith, m.most); joined = λ k. m.joined; apart = m.apart }

-- The loop of the two: it began at x₀ and y₀.
pub record Pairing (w : List ℕ) (top x₀ y₀ newest₀ x y newest : ℕ) : Type 0 where
  pub pair : Paired w top x y newest
  pub on : (s t : ℕ) → Beside w top s t x₀ y₀ newest₀ → Beside w top s t x y newest

pub pairing_step : {w : List ℕ} {top x₀ y₀ n₀ x y newest a b u v m : ℕ} → Forested w → top ≤ most_tags → Pairing w top x₀ y₀ n₀ x y newest → x ≢ y → a ≡ age_of w x → b ≡ age_of w y → a < top → m ≡ max a b → u ≡ parent_of w x → v ≡ parent_of w y
    → (u < x) × Pairing w top x₀ y₀ n₀ u v m
pairing_step f under h n ea eb l em eu ev =
    let r = beside-step f under h.pair.beside n ea eb l em eu ev in
    (r.0, record { pair = record { s = h.pair.s; t = h.pair.t; beside = r.1 }; on = λ s t i. (beside-step f under (h.on s t i) n ea eb l em eu ev).1 })
