-- What was filed and then listed are the distinct sheets of the list's records: none is left out, none is there twice, and there are no more than records.
-- Assumes nothing.
use Prim.Native.Nat.{ℕ, ◌-◌, ◌≤◌, ◌<◌}
use native.Mathlib.Omega.{arith}
use mathlib.Core.Path.{◌≡◌, refl, subst}
use mathlib.Core.Logic.{inl, ◌≢◌}
use mathlib.Core.List.{List, Memᴰ}
use lib.ListN.{get_or}
use Rattle.meaning.proofs.Rising.{numbers, numbers-rise, numbers-in, rising-short}
use Rattle.job_field.specs.Items.{sheets_of}
use Rattle.job_field.specs.Reading.{items_in}
use Rattle.table.specs.Map.{gather, list_of, sheet_of, sheets_in, hundred_of, Within}
use Rattle.table.proofs.Frame.{seen-within, length-gather, within-trans, within_wider}
use Rattle.table.specs.Places.{LIST, HUNDREDS, all_of, sheets_part, hundred_count}
use Rattle.sheets_find.specs.Filing.{is_filed, hundred_no, top_sheet, Emptied, Ready, Written}
use Rattle.sheets_find.proofs.Filing.{filed-shut}
use Rattle.sheets_walk.specs.Walk.{listed_sheets, Listed, Gathered, Clear, Distinct, Found}

-- Nothing is filed where no hundred is in use.
pub clear_of : {w w' : List ℕ} → Emptied w w' hundred_count → Clear w'
clear_of {w} {w'} e = record { none = λ h a b. filed-shut w' h (other h a b) }
  where
    other : (h : ℕ) → 1 ≤ h → h ≤ top_sheet → hundred_of w' (hundred_no h) ≢ 1
    other h a b q = omega (arith, q, e.none (hundred_no h) (omega arith))

list_same : {w w' : List ℕ} → Within (all_of HUNDREDS) w w' → list_of w' ≡ list_of w
list_same f = seen-within LIST f (inl (omega arith))

pub listed-still : {job w w' : List ℕ} {count : ℕ} → Listed job w count → Within (all_of HUNDREDS) w w' → Listed job w' count
listed-still {job} {w} {w'} {count} d f = record {
  stands = d.stands;
  long = omega (arith, d.long, f.size);
  few = d.few;
  rising = rw (list_same f) d.rising;
  there = rw (list_same f) d.there;
}

pub ready_of : {job w w' : List ℕ} {count : ℕ} → Listed job w count → Gathered job w w' count → Ready w' 0 0
ready_of {job} {w} {w'} {count} d g = record {
  long = omega (arith, d.long, g.kept.size);
  all = listed_sheets (sheets_of (items_in job)) w count;
  few = rw (length-gather (λ j. get_or (sheets_of (items_in job)) (list_of w j - 1) 0) count) (omega (arith, d.few));
  among = λ h a b t. (g.same h a b).0 t;
  is = refl;
}

pub found_of : {job w w₁ w₂ w₃ : List ℕ} {count c : ℕ} → Emptied w w₁ hundred_count → Gathered job w₁ w₂ count → Written w₂ w₃ top_sheet c → Found job w w₃ count c
found_of {job} {w} {w₁} {w₂} {w₃} {count} {c} e g v = record {
  kept = within-trans (within_wider sheets_part (omega arith) (omega arith) e.kept) (within-trans (within_wider sheets_part (omega arith) (omega arith) g.kept) (within_wider sheets_part (omega arith) (omega arith) v.kept));
  right = subst (λ (f : ℕ → ℕ). Distinct (gather (λ j. get_or (sheets_of (items_in job)) (f j - 1) 0) count) (sheets_in c w₃)) (list_same e.kept) distinct;
  few = few;
}
  where
    S : List ℕ
    S = listed_sheets (sheets_of (items_in job)) w₁ count

    each : (h : ℕ) → Memᴰ h (numbers (is_filed w₂) top_sheet) → Memᴰ h S
    each h m = let j = (numbers-in (is_filed w₂) top_sheet h).0 m in (g.same h j.0 j.1).0 j.2

    every : (h : ℕ) → Memᴰ h S → 0 < h → Memᴰ h (numbers (is_filed w₂) top_sheet)
    every h m l = let b : h ≤ top_sheet = omega (arith, g.low h m) in (numbers-in (is_filed w₂) top_sheet h).1 (omega arith, b, (g.same h (omega arith) b).1 m)

    distinct : Distinct S (sheets_in c w₃)
    distinct = rw v.is (record { rising = (numbers-rise (is_filed w₂) top_sheet).0; each = each; every = every })

    few : c ≤ count
    few =
        let a = rising-short 0 (sheets_in c w₃) S distinct.rising distinct.each in
        omega (arith, a, length-gather (sheet_of w₃) c, length-gather (λ j. get_or (sheets_of (items_in job)) (list_of w₁ j - 1) 0) count)
