-- Numbers of the list are copied within it. Assumes nothing.
use Prim.Native.Nat.{ℕ, ◌+◌, ◌-◌, ◌≤◌, ◌<◌}
use native.Mathlib.Omega.{arith}
use native.Mathlib.Decide.{dec_lt}
use mathlib.Core.Path.{◌≡◌, sym, ◌∙◌}
use mathlib.Core.Logic.{◌⊎◌, inl, inr}
use mathlib.Core.List.{List}
use lib.ListN.{length, get_or}
use Rattle.std.specs.List.{CopiedTo, SameBelow, SameFrom}
use Rattle.meaning.specs.Limits.{most_records}
use Rattle.table.specs.Map.{list_of}
use Rattle.table.specs.Places.{LIST, Large}
use Rattle.table.proofs.Frame.{seen_at, seen-past}
use Rattle.reason_trim.specs.Trimming.{Copied}

-- What the library's copy leaves of the list.
module _ (w w' : List ℕ) (from to count : ℕ) (long : Large w) (t : to + count ≤ most_records) (f : from + count ≤ most_records) (size : length w' ≡ length w)
    (copy : CopiedTo w w' (LIST.at + from) (LIST.at + to) (LIST.at + from + count - (LIST.at + from))) (below : SameBelow w w' (LIST.at + to)) (behind : SameFrom w w' (LIST.at + to + (LIST.at + from + count - (LIST.at + from)))) where
  outside : (i : ℕ) → (i < LIST.at + to) ⊎ (LIST.at + to + count ≤ i) → get_or w' i 0 ≡ get_or w i 0
  outside i (inl l) = below i 0 l
  outside i (inr l) = behind i 0 (omega arith)

  list_same : (x : ℕ) → (x < to) ⊎ (to + count ≤ x) → Dec (x < most_records) → list_of w' x ≡ list_of w x
  list_same x o (yes l) = seen_at LIST w' x l ∙ outside (LIST.at + x) (side o) ∙ sym (seen_at LIST w x l)
    where
      side : (x < to) ⊎ (to + count ≤ x) → (LIST.at + x < LIST.at + to) ⊎ (LIST.at + to + count ≤ LIST.at + x)
      side (inl h) = inl (omega arith)
      side (inr h) = inr (omega arith)
  list_same x o (no l) = seen-past LIST w' x (omega arith) ∙ sym (seen-past LIST w x (omega arith))

  pub copied : Copied w w' from to count
  copied = record { kept = record { size = size; same = λ i o. kept i o }; same = λ x o. list_same x o (dec_lt x most_records); copy = λ j l. here j l }
    where
      kept : (i : ℕ) → (i < LIST.at) ⊎ (LIST.at + LIST.size ≤ i) → get_or w' i 0 ≡ get_or w i 0
      kept i (inl h) = outside i (inl (omega arith))
      kept i (inr h) = outside i (inr (omega arith))

      here : (j : ℕ) → j < count → list_of w' (to + j) ≡ list_of w (from + j)
      here j l =
          let p : LIST.at + from + (LIST.at + (to + j) - (LIST.at + to)) ≡ LIST.at + (from + j) = omega arith in
          let q : get_or w' (LIST.at + (to + j)) 0 ≡ get_or w (LIST.at + (from + j)) 0 = rw p at (copy (LIST.at + (to + j)) 0 (omega arith) (omega arith)) in
          seen_at LIST w' (to + j) (omega arith) ∙ q ∙ sym (seen_at LIST w (from + j) (omega arith))
