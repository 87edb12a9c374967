-- The earliest broken pair is one, and there is one or none is broken: following is decided, and the pairs are looked at in their order.
-- Assumes nothing.
use Prim.Native.Nat.{ℕ, zero, suc, ◌≤◌, ◌<◌}
use native.Mathlib.Omega.{arith}
use native.Mathlib.Decide.{ℕ_discrete}
use mathlib.Core.Path.{◌≡◌}
use mathlib.Core.Logic.{◌⊎◌, inl, inr}
use mathlib.Core.List.{List}
use Rattle.meaning.specs.Following.{Rec, Follows, UpTo}
use Rattle.meaning.proofs.Decide.{dec_up_to}
use Rattle.job_field.specs.Items.{Pair}
use Rattle.report.specs.Broken.{pair_no, Broken, Earliest, Unbroken}

-- The earliest broken one is one, ..
pub earliest-one : {rs : List Rec} {R : ℕ} {ps : List Pair} {D k k' : ℕ} → Earliest rs R ps D k → Earliest rs R ps D k' → k ≡ k'
earliest-one {k = k} {k' = k'} h h' =
    let l : ¬ (k < k') = λ l. h'.first k h.number l h.broken in
    let m : ¬ (k' < k) = λ l. h.first k' h'.number l h'.broken in
    omega arith

-- .. where there is one it cannot be said that there is none, ..
pub earliest-some : {rs : List Rec} {R : ℕ} {ps : List Pair} {D k : ℕ} → Earliest rs R ps D k → Unbroken rs R ps D → ⊥
earliest-some {k = k} h n = n k h.number h.before h.broken

-- .. and a later question, behind more records and more pairs, has it or an earlier one.
pub earliest-falls : {rs : List Rec} {R R' : ℕ} {ps : List Pair} {D D' k k' : ℕ} → ((x y : ℕ) → Follows (UpTo rs R) x y → Follows (UpTo rs R') x y)
    → Earliest rs R ps D k → Earliest rs R' ps D' k' → k' ≤ k
earliest-falls {k = k} {k' = k'} more h h' = let l : ¬ (k < k') = λ l. h'.first k h.number l (more _ _ h.broken) in omega arith

-- There is one, or none is broken.
pub earliest-or : (rs : List Rec) (R : ℕ) (ps : List Pair) (D : ℕ) → ((k : ℕ) × Earliest rs R ps D k) ⊎ Unbroken rs R ps D
earliest-or rs R ps zero = inr (λ j l k f. omega arith)
earliest-or rs R ps (suc D) = go (earliest-or rs R ps D) (dec_up_to rs R p.first p.second)
  where
    p : Pair
    p = pair_no ps (suc D)

    below : (Broken rs R p → ⊥) → Unbroken rs R ps D → (j : ℕ) → Dec (j ≡ suc D) → 1 ≤ j → j ≤ suc D → Broken rs R (pair_no ps j) → ⊥
    below n u j (yes e) l k f = n (rw e at f)
    below n u j (no e) l k f = u j l (omega arith) f

    go : ((k : ℕ) × Earliest rs R ps D k) ⊎ Unbroken rs R ps D → Dec (Broken rs R p) → ((k : ℕ) × Earliest rs R ps (suc D) k) ⊎ Unbroken rs R ps (suc D)
    go (inl r) f = let h = r.1 in inl (r.0, record { number = h.number; before = omega (arith, h.before); broken = h.broken; first = h.first })
    go (inr u) (yes f) = inl (suc D, record { number = omega arith; before = omega arith; broken = f; first = λ j l k. u j l (omega arith) })
    go (inr u) (no n) = inr (λ j l k. below n u j (ℕ_discrete j (suc D)) l k)
