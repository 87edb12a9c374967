-- What is written behind the columns leaves them: the records are as they were, and what is loaded still is.
-- Assumes nothing.
use Prim.Native.Nat.{ℕ}
use native.Mathlib.Omega.{arith}
use mathlib.Core.Path.{◌≡◌}
use mathlib.Core.Logic.{inl}
use mathlib.Core.List.{List}
use Rattle.table.specs.Map.{left_of, right_of, result_of, records_in, Loaded, Within}
use Rattle.table.proofs.Frame.{seen-within}
use Rattle.table.specs.Places.{LEFT, PARENT, RESULT, RIGHT, from_to}

module _ {end : ℕ} {w w' : List ℕ} (f : Within (from_to PARENT.at end) w w') where
  pub lefts : left_of w' ≡ left_of w
  lefts = seen-within LEFT f (inl (omega arith))

  pub rights : right_of w' ≡ right_of w
  rights = seen-within RIGHT f (inl (omega arith))

  pub results : result_of w' ≡ result_of w
  results = seen-within RESULT f (inl (omega arith))

  pub loaded-same : {N len : ℕ} → Loaded N len w → Loaded N len w'
  loaded-same h = record { long = omega (arith, h.long, f.size); some = h.some; few = h.few; most = h.most; small = rw (lefts, rights, results) h.small }

  pub records-same : (len : ℕ) → records_in len w' ≡ records_in len w
  records-same len = rw (lefts, rights, results)
