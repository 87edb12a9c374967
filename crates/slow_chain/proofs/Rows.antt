-- The record at a place, read off the columns. Assumes nothing.
use Prim.Native.Nat.{ℕ, suc, ◌≤◌, ◌<◌}
use native.Mathlib.Omega.{arith}
use mathlib.Core.Path.{◌≡◌, refl, sym, ◌∙◌}
use mathlib.Core.Bool.{Bool, false}
use mathlib.Core.List.{List}
use lib.Dec.{eqb}
use Rattle.meaning.specs.Following.{eq, At}
use Rattle.meaning.specs.Limits.{most_records}
use Rattle.table.specs.Map.{left_of, right_of, result_of, rec_at, records_in, Loaded}
use Rattle.table.specs.Places.{EQUATION}
use Rattle.table.proofs.Frame.{length-gather, get_or-gather}
use Rattle.table_labels.specs.Parts.{Readable}
use Rattle.table_labels.proofs.Rows.{left-small, right-small, result-small}
use Rattle.slow_chain.specs.Places.{eqn_of}

module _ {N len : ℕ} {w : List ℕ} (h : Loaded N len w) (i : ℕ) (l : i < len) where
  pub row-left : left_of w (suc i) < N
  row-left = left-small N (eqn_of w i) (left_of w (suc i)) (right_of w (suc i)) (result_of w (suc i)) (h.small i l)

  pub row-right : right_of w (suc i) < N
  row-right = right-small N (eqn_of w i) (left_of w (suc i)) (right_of w (suc i)) (result_of w (suc i)) (h.small i l)

  pub row-result : eqn_of w i ≡ false → result_of w (suc i) < N
  row-result e = result-small N (eqn_of w i) (left_of w (suc i)) (right_of w (suc i)) (result_of w (suc i)) e (h.small i l)

  pub row-most : suc i ≤ most_records
  row-most = omega (arith, h.most)

  pub row-readable : (k : ℕ) → k ≡ suc i → Readable w k
  row-readable k e = rw e (record { long = h.long; most = row-most; left = omega (arith, row-left, h.few); right = omega (arith, row-right, h.few) })

  pub row_at : At (records_in len w) (suc i) (rec_at w (suc i))
  row_at = record { place = i; number = refl; stands = rw (length-gather (λ k. rec_at w (suc k)) len) l; is = get_or-gather (λ k. rec_at w (suc k)) len i (eq 0 0) l }

pub eqn-is : (w : List ℕ) (i k : ℕ) (b v : Bool) → k ≡ suc i → b ≡ eqb (result_of w k) EQUATION → b ≡ v → eqn_of w i ≡ v
eqn-is w i k b v ek eb ev = rw (← ek) (sym eb ∙ ev)
