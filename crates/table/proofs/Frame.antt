-- What a store and a frame leave of the regions, once for every region; and the laws of gathered lists.
-- Assumes nothing.
use Prim.Native.Nat.{ℕ, zero, suc, ◌+◌, ◌≤◌, ◌<◌}
use native.Mathlib.Omega.{arith}
use native.Mathlib.Decide.{ℕ_discrete, dec_lt}
use mathlib.Core.Path.{◌≡◌, refl, sym, ◌∙◌, ap, fun_ext}
use mathlib.Core.Logic.{◌≢◌, ◌⊎◌, inl, inr}
use mathlib.Core.Bool.{Bool, true, false}
use mathlib.Core.List.Memᴰ
use mathlib.Core.List.{List, [], ◌∷◌, ◌++◌, Memᴰ}
use lib.Dec.{eqb, leb}
use borrow.Author.Tests.{lt-ltb, le-ltb, le-leb, lt-leb, eq-eqb, ne_eqb}
use lib.ListN.{length, get_or, set, length-set, length-append, get_or-append}
use lib.Seq.{get_or-set_same, get_or-set_other, get_or-append_seam}
use Rattle.meaning.specs.Joins.{put}
use Rattle.meaning.proofs.Log.{put-hit, put-miss}
use Rattle.table.specs.Map.{seen, chain_in, gather, Within}
use Rattle.table.specs.Places.{BEFORE, ENDS, MORE, OTHER, PRIOR, Part, Region, SHARES, TAILS, USES, WAITS, before_at, column_size, end_at, more_at, use_at}

module _ (r : Region) where
  -- Within its size a region is the table; past it, the rule.
  pub seen_at : (w : List ℕ) (x : ℕ) → x < r.size → seen r w x ≡ get_or w (r.at + x) 0
  unfolding seen
  seen_at w x l = rw (lt-ltb x r.size l)

  pub seen-past : (w : List ℕ) (x : ℕ) → r.size ≤ x → seen r w x ≡ r.past x
  unfolding seen
  seen-past w x l = rw (le-ltb x r.size l)

  -- Two tables that agree in a region are one to whoever sees the region.
  pub seen_same : (w w' : List ℕ) → ((x : ℕ) → x < r.size → get_or w' (r.at + x) 0 ≡ get_or w (r.at + x) 0) → seen r w' ≡ seen r w
  seen_same w w' h = fun_ext (λ x. go x (dec_lt x r.size))
    where
      go : (x : ℕ) → Dec (x < r.size) → seen r w' x ≡ seen r w x
      go x (yes l) = rw (seen_at w' x l, seen_at w x l) (h x l)
      go x (no l) = rw (seen-past w' x (omega arith), seen-past w x (omega arith))

  -- A store in the region changes one place of it; one elsewhere changes nothing of it.
  pub seen-in : (w : List ℕ) (i v : ℕ) → i < r.size → r.at + i < length w → seen r (set w (r.at + i) v) ≡ put i v (seen r w)
  seen-in w i v l h = fun_ext (λ x. go x (ℕ_discrete x i) (dec_lt x r.size))
    where
      go : (x : ℕ) → Dec (x ≡ i) → Dec (x < r.size) → seen r (set w (r.at + i) v) x ≡ put i v (seen r w) x
      go x (yes q) d = rw (q, put-hit i v (seen r w), seen_at (set w (r.at + i) v) i l) (get_or-set_same w (r.at + i) v 0 h)
      go x (no q) (yes d) = rw (put-miss i v (seen r w) x q, seen_at (set w (r.at + i) v) x d, seen_at w x d) (get_or-set_other w (r.at + i) (r.at + x) v 0 (λ e. q (omega arith)))
      go x (no q) (no d) = rw (put-miss i v (seen r w) x q, seen-past (set w (r.at + i) v) x (omega arith), seen-past w x (omega arith))

  pub seen-out : (w : List ℕ) (j v : ℕ) → (j < r.at) ⊎ (r.at + r.size ≤ j) → seen r (set w j v) ≡ seen r w
  seen-out w j v h = seen_same w (set w j v) (λ x l. get_or-set_other w j (r.at + x) v 0 (other x l h))
    where
      other : (x : ℕ) → x < r.size → (j < r.at) ⊎ (r.at + r.size ≤ j) → r.at + x ≢ j
      other x l (inl k) e = omega arith
      other x l (inr k) e = omega arith

  -- A region before or behind the frame is kept.
  pub seen-within : {p : Part} {w w' : List ℕ} → Within p w w' → (r.at + r.size ≤ p.from) ⊎ (p.upto ≤ r.at) → seen r w' ≡ seen r w
  seen-within {p} {w} {w'} f h = seen_same w w' (λ x l. f.same (r.at + x) (out x l h))
    where
      out : (x : ℕ) → x < r.size → (r.at + r.size ≤ p.from) ⊎ (p.upto ≤ r.at) → (r.at + x < p.from) ⊎ (p.upto ≤ r.at + x)
      out x l (inl k) = inl (omega arith)
      out x l (inr k) = inr (omega arith)

-- Frames.
pub within-refl : {p : Part} (w : List ℕ) → Within p w w
within-refl w = record { size = refl; same = λ i h. refl }

pub within-trans : {p : Part} {w w' w'' : List ℕ} → Within p w w' → Within p w' w'' → Within p w w''
within-trans f g = record { size = g.size ∙ f.size; same = λ i h. g.same i h ∙ f.same i h }

pub within_wider : {p : Part} (q : Part) {w w' : List ℕ} → q.from ≤ p.from → p.upto ≤ q.upto → Within p w w' → Within q w w'
within_wider {p} q l k f = record { size = f.size; same = λ i h. f.same i (out i h) }
  where
    out : (i : ℕ) → (i < q.from) ⊎ (q.upto ≤ i) → (i < p.from) ⊎ (p.upto ≤ i)
    out i (inl h) = inl (omega arith)
    out i (inr h) = inr (omega arith)

pub within-set : (p : Part) (w : List ℕ) (j v : ℕ) → p.from ≤ j → j < p.upto → Within p w (set w j v)
within-set p w j v l k = record { size = length-set w j v; same = λ i h. get_or-set_other w j i v 0 (other i h) }
  where
    other : (i : ℕ) → (i < p.from) ⊎ (p.upto ≤ i) → i ≢ j
    other i (inl h) q = omega arith
    other i (inr h) q = omega arith

-- Where the lists of uses stand.
pub uses-least : (b : Bool) → USES.at ≤ use_at b
uses-least true = omega arith
uses-least false = omega arith

pub uses-most : (b : Bool) → use_at b ≤ SHARES.at
uses-most true = omega arith
uses-most false = omega arith

pub mores-least : (b : Bool) → MORE.at ≤ more_at b
mores-least true = omega arith
mores-least false = omega arith

pub mores-most : (b : Bool) → more_at b ≤ OTHER.at
mores-most true = omega arith
mores-most false = omega arith

pub ends-between : (b : Bool) → (ENDS.at ≤ end_at b) × (end_at b ≤ TAILS.at) × (BEFORE.at ≤ before_at b) × (before_at b ≤ PRIOR.at)
ends-between true = (omega arith, omega arith, omega arith, omega arith)
ends-between false = (omega arith, omega arith, omega arith, omega arith)

-- A number up to 4,001 is that of a chain; a larger one is that of a place that waits.
pub chain-low : (v : ℕ) → v ≤ column_size → chain_in v ≡ v
chain-low v l = rw (le-leb v column_size l)

pub chain-high : (v : ℕ) → WAITS ≤ v → chain_in v ≡ 0
chain-high v l = rw (lt-leb v column_size l)

pub waits-is : (v : ℕ) → 0 < v → leb WAITS v ≡ eqb (chain_in v) 0
waits-is v l = elim (dec_lt v WAITS) [
  | yes k ↦ lt-leb WAITS v k ∙ sym (ne_eqb (chain_in v) 0 (λ e. let z = chain-low v (omega arith) in omega arith))
  | no k ↦ le-leb WAITS v (omega arith) ∙ sym (eq-eqb (chain_in v) 0 (chain-high v (omega arith)))
]

-- Gathered lists.
module _ {A : Type 0} where
  pub length-gather : (f : ℕ → A) (n : ℕ) → length (gather f n) ≡ n
  length-gather f zero = refl
  length-gather f (suc n) = length-append (gather f n) (f n ∷ []) ∙ rw (length-gather f n) (omega arith)

  pub gather-same : (f g : ℕ → A) (n : ℕ) → ((i : ℕ) → i < n → f i ≡ g i) → gather f n ≡ gather g n
  gather-same f g zero h = refl
  gather-same f g (suc n) h = rw (gather-same f g n (λ i l. h i (omega arith)), h n (omega arith))

  pub gather-in : (f : ℕ → A) (n i : ℕ) → i < n → Memᴰ (f i) (gather f n)
  gather-in f zero i l = absurd (omega arith)
  gather-in f (suc n) i l = go (gather-in f n i) (ℕ_discrete i n)
    where
      go : (i < n → Memᴰ (f i) (gather f n)) → Dec (i ≡ n) → Memᴰ (f i) (gather f n ++ (f n ∷ []))
      go r (yes q) = Memᴰ.append_right (gather f n) (Memᴰ.head (ap f q))
      go r (no q) = Memᴰ.append_left (f n ∷ []) (r (omega arith))

  pub in-gather : (f : ℕ → A) (n : ℕ) (x : A) → Memᴰ x (gather f n) → (i : ℕ) × (i < n) × (f i ≡ x)
  in-gather f zero x m = absurd (Memᴰ.not-nil m)
  in-gather f (suc n) x m = elim (Memᴰ.append_cases (gather f n) m) [
    | inl k ↦ let r = in-gather f n x k in (r.0, omega (arith, r.1), r.2)
    | inr k ↦ (n, omega arith, sym (Memᴰ.eq_of_singleton k))
  ]

  pub get_or-gather : (f : ℕ → A) (n i : ℕ) (d : A) → i < n → get_or (gather f n) i d ≡ f i
  get_or-gather f zero i d l = absurd (omega arith)
  get_or-gather f (suc n) i d l = go (get_or-gather f n i d) (ℕ_discrete i n)
    where
      go : (i < n → get_or (gather f n) i d ≡ f i) → Dec (i ≡ n) → get_or (gather f n ++ (f n ∷ [])) i d ≡ f i
      go r (no q) = get_or-append (gather f n) (f n ∷ []) d i (rw (length-gather f n) (omega arith)) ∙ r (omega arith)
      go r (yes q) = ap (λ (j : ℕ). get_or (gather f n ++ (f n ∷ [])) j d) (q ∙ sym (length-gather f n)) ∙ get_or-append_seam (gather f n) (f n) [] d ∙ sym (ap f q)
