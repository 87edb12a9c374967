-- What is read off the columns: equations stay level, and the record of a place.
-- Assumes nothing.
use Prim.Native.Nat.{ℕ, suc, ◌≤◌, ◌<◌}
use native.Mathlib.Omega.{arith}
use mathlib.Core.Path.{◌≡◌, refl}
use mathlib.Core.Bool.{false}
use mathlib.Core.List.{List}
use Rattle.meaning.specs.Following.{At, eq}
use Rattle.meaning.specs.Limits.{most_records, most_tags}
use Rattle.table.specs.Map.{left_of, right_of, result_of, label_of, rec_at, records_in, Loaded, Within}
use Rattle.table.proofs.Frame.{length-gather, get_or-gather}
use Rattle.table_labels.proofs.Rows.{result-small}
use Rattle.table.proofs.Kept.{lefts, rights, results}
use Rattle.table.specs.Places.{Large, behind_columns}
use Rattle.all_index.specs.State.{eqn_at}
use Rattle.all_settle.specs.State.{Level}

-- Equations whose labels were equal have equal labels where equal ones stay equal.
pub level-same : {w w' : List ℕ} {i : ℕ} → Within behind_columns w w' → ((x y : ℕ) → label_of w x ≡ label_of w y → label_of w' x ≡ label_of w' y) → Level i w → Level i w'
level-same {w = w} f h l j k e = rw (lefts f, rights f) (h (left_of w (suc j)) (right_of w (suc j)) (l j k (rw (results f) at e)))

-- The record of a place.
module _ {N len : ℕ} {w : List ℕ} (h : Loaded N len w) (j : ℕ) (l : j < len) where
  pub row-result : eqn_at w j ≡ false → result_of w (suc j) < N
  row-result e = result-small N (eqn_at w j) (left_of w (suc j)) (right_of w (suc j)) (result_of w (suc j)) e (h.small j l)

  -- Its result has a label.
  pub result_fits : eqn_at w j ≡ false → (r : ℕ) → r ≡ suc j → Large w × (r ≤ most_records) × (result_of w r < most_tags)
  result_fits e r q = (h.long, omega (arith, h.most), rw q (omega (arith, row-result e, h.few)))

  pub row_at : At (records_in len w) (suc j) (rec_at w (suc j))
  row_at = record {
    place = j;
    number = refl;
    stands = rw (length-gather (λ k. rec_at w (suc k)) len) l;
    is = get_or-gather (λ k. rec_at w (suc k)) len j (eq 0 0) l;
  }
