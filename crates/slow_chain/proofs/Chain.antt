-- The chains that a pass fills: what a search finds is a hit; a place put at the head of its bucket's chain is found by its key, and every other key
-- finds what it found before.
-- Assumes nothing.
use Prim.Native.Nat.{ℕ, zero, suc, ◌-◌, ◌%◌, ◌≤◌, ◌<◌}
use native.Mathlib.Omega.{arith}
use mathlib.Core.Path.{◌≡◌, refl, sym, ◌∙◌}
use mathlib.Core.Logic.{◌≢◌}
use mathlib.Core.Bool.{Bool, true, false, cond}
use borrow.Author.Tests.{eq-eqb, ne_eqb, eqb-true}
use Rattle.meaning.specs.Joins.{put}
use Rattle.meaning.proofs.Log.{put-hit, put-miss}
use Rattle.table_labels.specs.Chain.{seek_in, seek_to, hits, look}
use Rattle.table_labels.proofs.Chain.{by-same, seek-ext, seek-step, below}
use Rattle.slow_chain.specs.Chain.{Chains, Filled}

module _ (nx : ℕ → ℕ) (hit : ℕ → Bool) (fall : (r : ℕ) → nx r ≤ r) where
  -- What is found is a hit, at p or below, and has what every link has.
  module _ (Q : ℕ → Type 0) (next : (r : ℕ) → Q (nx r)) where
    abbrev Hit : ℕ → ℕ → Type 0
    Hit p q = 0 < q → (hit (q - 1) ≡ true) × ((q ≤ p) × Q q)

    picked : (b : Bool) (r q : ℕ) → hit r ≡ b → Q (suc r) → Hit r q → Hit (suc r) (cond b (suc r) q)
    picked true r q e k h l = let z : suc r - 1 ≡ r = omega arith in (rw z e, (omega arith, k))
    picked false r q e k h l = ((h l).0, (omega (arith, (h l).1.0), (h l).1.1))

    seek-in : (f p : ℕ) → Q p → Hit p (seek_in nx hit f p)
    seek-in zero p k h = absurd (omega (arith, h))
    seek-in (suc f) zero k h = absurd (omega (arith, h))
    seek-in (suc f) (suc r) k h =
        picked (hit r) r (seek_in nx hit f (nx r)) refl k (λ l. let s = seek-in f (nx r) (next r) l in (s.0, (omega (arith, s.1.0, fall r), s.1.1))) h

    pub seek_hit : (p : ℕ) → Q p → 0 < seek_to nx hit p → (hit (seek_to nx hit p - 1) ≡ true) × ((seek_to nx hit p ≤ p) × Q (seek_to nx hit p))
    unfolding seek_to
    seek_hit p k = seek-in p p k

-- An empty table.
pub chains-none : (eqn : ℕ → Bool) (hd nx : ℕ → ℕ) → ((b : ℕ) → hd b ≡ 0) → ((r : ℕ) → nx r ≡ 0) → Chains eqn hd nx 0
chains-none eqn hd nx z y = record {
  heads = λ b. omega (arith, z b);
  falls = λ r. omega (arith, y r);
  head-app = λ b l. absurd (omega (arith, z b));
  next-app = λ r l. absurd (omega (arith, y r));
}

pub filled_none : (B : ℕ) (eqn : ℕ → Bool) (key res hd nx : ℕ → ℕ) → Filled B eqn key res hd nx 0
filled_none B eqn key res hd nx = record { found = λ j l. absurd (omega arith); agree = λ j l. absurd (omega arith) }

pub chains-up : {eqn : ℕ → Bool} {hd nx : ℕ → ℕ} {i j : ℕ} → i ≤ j → Chains eqn hd nx i → Chains eqn hd nx j
chains-up l t = record { heads = λ b. omega (arith, t.heads b); falls = t.falls; head-app = t.head-app; next-app = t.next-app }

module _ (B : ℕ) (eqn : ℕ → Bool) (key res hd nx : ℕ → ℕ) (i : ℕ) (t : Chains eqn hd nx i) where
  -- What is found has the key, and is an application of the table.
  pub look_hit : (x : ℕ) → 0 < look B key hd nx x → (key (look B key hd nx x - 1) ≡ x) × ((look B key hd nx x ≤ i) × (eqn (look B key hd nx x - 1) ≡ false))
  unfolding look
  look_hit x l =
      let a : hd (x % B) ≤ i = t.heads (x % B) in
      let s = seek_hit nx (hits key x) t.falls (λ p. 0 < p → eqn (p - 1) ≡ false) t.next-app (hd (x % B)) (t.head-app (x % B)) l in
      (eqb-true _ x s.0, (omega (arith, s.1.0), s.1.1 l))

  -- Place i is an equation; or has the key and the result of what is found.
  pub filled-pass : eqn i ≡ true → Filled B eqn key res hd nx i → Filled B eqn key res hd nx (suc i)
  filled-pass q f = record {
    found = below (λ j. eqn j ≡ false → 0 < look B key hd nx (key j)) i f.found (λ e. let z : true ≡ false = sym q ∙ e in absurd (no-confusion z));
    agree = below (λ j. eqn j ≡ false → res (look B key hd nx (key j) - 1) ≡ res j) i f.agree (λ e. let z : true ≡ false = sym q ∙ e in absurd (no-confusion z));
  }
    where
      no-confusion : true ≡ false → ⊥
      no-confusion z = let y : ◌≡◌ {A = ℕ} 0 1 = cc in omega arith

  pub filled-skip : 0 < look B key hd nx (key i) → res (look B key hd nx (key i) - 1) ≡ res i → Filled B eqn key res hd nx i → Filled B eqn key res hd nx (suc i)
  filled-skip l e f = record {
    found = below (λ j. eqn j ≡ false → 0 < look B key hd nx (key j)) i f.found (λ q. l);
    agree = below (λ j. eqn j ≡ false → res (look B key hd nx (key j) - 1) ≡ res j) i f.agree (λ q. e);
  }

  -- Place i is put at the head of its bucket's chain.
  module _ (app : eqn i ≡ false) where
    abbrev hd' : ℕ → ℕ
    hd' = put (key i % B) (suc i) hd

    abbrev nx' : ℕ → ℕ
    nx' = put i (hd (key i % B)) nx

    falls' : (r : ℕ) → nx' r ≤ r
    falls' r = by-same r i (λ e. rw (e, put-hit i (hd (key i % B)) nx) (t.heads (key i % B))) (λ n. rw (put-miss i (hd (key i % B)) nx r n) (t.falls r))

    pub chains-insert : Chains eqn hd' nx' (suc i)
    chains-insert = record {
      heads = λ b. by-same b (key i % B) (λ e. rw (e, put-hit (key i % B) (suc i) hd) (omega arith)) (λ n. rw (put-miss (key i % B) (suc i) hd b n) (omega (arith, t.heads b)));
      falls = falls';
      head-app = λ b. by-same b (key i % B) (λ e. rw (e, put-hit (key i % B) (suc i) hd) (λ l. let z : suc i - 1 ≡ i = omega arith in rw z app)) (λ n. rw (put-miss (key i % B) (suc i) hd b n) (t.head-app b));
      next-app = λ r. by-same r i (λ e. rw (e, put-hit i (hd (key i % B)) nx) (t.head-app (key i % B))) (λ n. rw (put-miss i (hd (key i % B)) nx r n) (t.next-app r));
    }

    -- A chain from i or below is as it was.
    low : (x p : ℕ) → p ≤ i → seek_to nx' (hits key x) p ≡ seek_to nx (hits key x) p
    unfolding seek_to
    low x p l = sym (seek-ext nx nx' (hits key x) p p p (omega arith) (omega arith) t.falls (λ r h. sym (put-miss i (hd (key i % B)) nx r (omega arith))))

    -- The chain from place i.
    first : (x : ℕ) → seek_to nx' (hits key x) (suc i) ≡ cond (hits key x i) (suc i) (seek_to nx (hits key x) (hd (key i % B)))
    first x = seek-step nx' (hits key x) falls' i ∙ rw (put-hit i (hd (key i % B)) nx, low x (hd (key i % B)) (t.heads (key i % B)))

    -- The key of place i finds it; another key finds what it found.
    look-here : look B key hd' nx' (key i) ≡ suc i
    unfolding look
    look-here = rw (put-hit (key i % B) (suc i) hd, first (key i), eq-eqb (key i) (key i) refl)

    look-else : (x : ℕ) → key i ≢ x → look B key hd' nx' x ≡ look B key hd nx x
    unfolding look
    look-else x n = by-same (x % B) (key i % B) (λ e. rw (e, put-hit (key i % B) (suc i) hd, first x, ne_eqb (key i) x n))
        (λ d. rw (put-miss (key i % B) (suc i) hd (x % B) d) (low x (hd (x % B)) (t.heads (x % B))))

    pub filled-insert : look B key hd nx (key i) ≡ 0 → Filled B eqn key res hd nx i → Filled B eqn key res hd' nx' (suc i)
    filled-insert z f = record {
      found = below (λ j. eqn j ≡ false → 0 < look B key hd' nx' (key j)) i (λ j l q. rw (look-else (key j) (other j l q)) (f.found j l q)) (λ q. rw look-here (omega arith));
      agree = below (λ j. eqn j ≡ false → res (look B key hd' nx' (key j) - 1) ≡ res j) i (λ j l q. rw (look-else (key j) (other j l q)) (f.agree j l q)) (λ q. rw (look-here, back));
    }
      where
        back : suc i - 1 ≡ i
        back = omega arith

        other : (j : ℕ) → j < i → eqn j ≡ false → key i ≢ key j
        other j l q e = let g = f.found j l q in let y : look B key hd nx (key j) ≡ 0 = rw (← e) z in omega arith
