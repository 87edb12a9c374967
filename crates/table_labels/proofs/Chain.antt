-- The search of a chain ends because links fall, and any fuel that is enough agrees with any other.
-- Assumes nothing.
use Prim.Native.Nat.{ℕ, zero, suc, ◌-◌, ◌≤◌, ◌<◌}
use native.Mathlib.Omega.{arith}
use native.Mathlib.Decide.{ℕ_discrete}
use mathlib.Core.Path.{◌≡◌, refl, ap}
use mathlib.Core.Logic.{◌≢◌}
use mathlib.Core.Bool.{Bool, true, false, cond}
use Rattle.table_labels.specs.Chain.{seek_in, seek_to}

pub by-same : {C : Type 0} (a b : ℕ) → (a ≡ b → C) → (a ≢ b → C) → C
by-same a b f g = elim (ℕ_discrete a b) [ yes e ↦ f e | no n ↦ g n ]

module _ (nx nx' : ℕ → ℕ) (hit : ℕ → Bool) where
  -- Two chains that agree below p, and any fuel that is enough.
  pub seek-ext : (f g p : ℕ) → p ≤ f → p ≤ g → ((r : ℕ) → nx r ≤ r) → ((r : ℕ) → r < p → nx r ≡ nx' r) → seek_in nx hit f p ≡ seek_in nx' hit g p
  seek-ext zero zero zero a b fall en = refl
  seek-ext zero (suc g) zero a b fall en = refl
  seek-ext (suc f) zero zero a b fall en = refl
  seek-ext (suc f) (suc g) zero a b fall en = refl
  seek-ext zero g (suc r) a b fall en = absurd (omega (arith, a))
  seek-ext (suc f) zero (suc r) a b fall en = absurd (omega (arith, b))
  seek-ext (suc f) (suc g) (suc r) a b fall en =
      let d : nx r ≤ r = fall r in
      let e : nx r ≡ nx' r = en r (omega arith) in
      let s : seek_in nx hit f (nx r) ≡ seek_in nx' hit g (nx r) = seek-ext f g (nx r) (omega arith) (omega arith) fall (λ q l. en q (omega arith)) in
      rw (s, e)

pub seek-same : (nx nx' : ℕ → ℕ) (hit : ℕ → Bool) (p : ℕ) → ((r : ℕ) → nx r ≤ r) → ((r : ℕ) → r < p → nx r ≡ nx' r) → seek_to nx hit p ≡ seek_to nx' hit p
unfolding seek_to
seek-same nx nx' hit p fall en = seek-ext nx nx' hit p p p (omega arith) (omega arith) fall en

module _ (nx : ℕ → ℕ) (hit : ℕ → Bool) (fall : (r : ℕ) → nx r ≤ r) where
  pub seek-step : (r : ℕ) → seek_to nx hit (suc r) ≡ cond (hit r) (suc r) (seek_to nx hit (nx r))
  unfolding seek_to
  seek-step r = let d : nx r ≤ r = fall r in ap (cond (hit r) (suc r)) (seek-ext nx nx hit r (nx r) (nx r) d (omega arith) fall (λ q l. refl))

  -- The two cases of a step, as a loop has them.
  pub seek_found : (p : ℕ) → 0 < p → hit (p - 1) ≡ true → seek_to nx hit p ≡ p
  seek_found zero l e = absurd (omega (arith, l))
  seek_found (suc r) l e = let z : suc r - 1 ≡ r = omega arith in rw (seek-step r, rw z at e)

  pub seek-next : (p : ℕ) → 0 < p → hit (p - 1) ≡ false → seek_to nx hit (nx (p - 1)) ≡ seek_to nx hit p
  seek-next zero l e = absurd (omega (arith, l))
  seek-next (suc r) l e = let z : suc r - 1 ≡ r = omega arith in rw (z, seek-step r, rw z at e)

  pub seek-none : seek_to nx hit 0 ≡ 0
  unfolding seek_to
  seek-none = refl

-- What holds of each place below i, and of i, holds of each below suc i.
pub below : (P : ℕ → Type 0) (i : ℕ) → ((j : ℕ) → j < i → P j) → P i → (j : ℕ) → j < suc i → P j
below P i h p j l = by-same j i (λ e. rw e p) (λ n. h j (omega arith))
