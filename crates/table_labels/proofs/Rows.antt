-- The records read off the columns: what stands there is the record, and its tags are the job's. A key tells both labels.
-- Assumes nothing.
use Prim.Native.Nat.{ℕ, suc, ◌+◌, ◌*◌, ◌<◌}
use native.Mathlib.Omega.{arith}
use mathlib.Core.Path.{◌≡◌, refl, sym, ◌∙◌}
use mathlib.Core.Bool.{Bool, true, false, cond}
use mathlib.Core.List.{List}
use Rattle.meaning.specs.Following.{Rec, eq, app, At}
use Rattle.meaning.proofs.Reference.{Small}
use Rattle.table.specs.Map.{rec_at, records_in}
use Rattle.table.proofs.Frame.{length-gather, get_or-gather}

module _ (N : ℕ) where
  pub left-small : (b : Bool) (l r s : ℕ) → Small N (cond b (eq l r) (app l r s)) → l < N
  left-small true l r s h = h.0
  left-small false l r s h = h.0

  pub right-small : (b : Bool) (l r s : ℕ) → Small N (cond b (eq l r) (app l r s)) → r < N
  right-small true l r s h = h.1
  right-small false l r s h = h.1

  pub result-small : (b : Bool) (l r s : ℕ) → b ≡ false → Small N (cond b (eq l r) (app l r s)) → s < N
  result-small b l r s e h = (rw e at h).2

-- What stands in the columns is the record.
pub at-rec : (len : ℕ) (w : List ℕ) (k : ℕ) (r : Rec) → At (records_in len w) k r → rec_at w k ≡ r
at-rec len w k r a =
    let l : a.place < len = rw (length-gather (λ k. rec_at w (suc k)) len) at a.stands in
    rw a.number (sym (get_or-gather (λ k. rec_at w (suc k)) len a.place (eq 0 0) l) ∙ a.is)

pub eq-parts : (b : Bool) (l r s x y : ℕ) → cond b (eq l r) (app l r s) ≡ eq x y → (b ≡ true) × (l ≡ x) × (r ≡ y)
eq-parts true l r s x y e = (refl, cc, cc)
eq-parts false l r s x y e = let z : ◌≡◌ {A = ℕ} 0 1 = cc in absurd (omega arith)

pub app-parts : (b : Bool) (l r s x y z : ℕ) → cond b (eq l r) (app l r s) ≡ app x y z → ((b ≡ false) × (l ≡ x)) × ((r ≡ y) × (s ≡ z))
app-parts true l r s x y z e = let z : ◌≡◌ {A = ℕ} 0 1 = cc in absurd (omega arith)
app-parts false l r s x y z e = ((refl, cc), (cc, cc))

pub split-key : (a b c d : ℕ) → b < 65536 → d < 65536 → a * 65536 + b ≡ c * 65536 + d → (a ≡ c) × (b ≡ d)
split-key a b c d lb ld e = omega arith
