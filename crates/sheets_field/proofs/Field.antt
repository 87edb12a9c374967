-- The sheets of a list are one list: two lists that rise and have the same numbers are one. So whether the 8A of the sheets that are found stands at a place
-- decides it for all. Assumes nothing.
use Prim.Native.Nat.{ℕ, ◌+◌, ◌*◌, ◌-◌, ◌<◌}
use native.Mathlib.Omega.{arith}
use mathlib.Core.Path.{◌≡◌, refl, sym, ◌∙◌, ap, subst}
use mathlib.Core.Logic.{◌⊎◌, inl, inr}
use mathlib.Core.List.{List, [], ◌∷◌, Memᴰ}
use Rattle.std.proofs.Common.{Option, None, Some}
use lib.ListN.{length, get_or}
use Rattle.meaning.specs.Reasons.{Above}
use Rattle.meaning.proofs.Rising.{above-all}
use Rattle.job_field.specs.Items.{sheets_of}
use Rattle.job_field.specs.Reading.{items_in}
use Rattle.table.specs.Map.{list_of, list_in, sheet_of, sheets_in, Within}
use Rattle.table.proofs.Frame.{gather-in, in-gather, length-gather, within_wider}
use Rattle.table.specs.Places.{scratch}
use Rattle.report.specs.Report.{two, numbers, field, laid}
use Rattle.report.specs.Sheets.{sheet_no, Sheets}
use Rattle.report.proofs.Bytes.{length-field}
use Rattle.report_read.specs.Read.{Holds}
use Rattle.report_read.proofs.Read.{holds-field, front-size}
use Rattle.report_numbers.proofs.Written.{length-list}
use Rattle.sheets_walk.specs.Walk.{listed_sheets, Found}
use Rattle.sheets_field.specs.Field.{sheets_bytes, SheetsOf, Laid, Seen}

-- Two lists that rise and have the same numbers are one.
pub rising-one : (m : ℕ) (L X : List ℕ) → Above m L → Above m X → ((h : ℕ) → Memᴰ h L → Memᴰ h X) → ((h : ℕ) → Memᴰ h X → Memᴰ h L) → L ≡ X
rising-one m [] [] a b f g = refl
rising-one m [] (x ∷ X) a b f g = absurd (mathlib.Core.List.Memᴰ.not-nil (g x (mathlib.Core.List.Memᴰ.head refl)))
rising-one m (k ∷ L) [] a b f g = absurd (mathlib.Core.List.Memᴰ.not-nil (f k (mathlib.Core.List.Memᴰ.head refl)))
rising-one m (k ∷ L) (x ∷ X) a b f g = join (rising-one k L X a.1 (subst (λ (n : ℕ). Above n X) (sym same) b.1) into from)
  where
    both : (k ≡ x) ⊎ Memᴰ k X → (x ≡ k) ⊎ Memᴰ x L → k ≡ x
    both (inl p) q = p
    both (inr p) (inl q) = sym q
    both (inr p) (inr q) = absurd (omega (arith, above-all x X b.1 k p, above-all k L a.1 x q))

    same : k ≡ x
    same = both (mathlib.Core.List.Memᴰ.cases_cons (f k (mathlib.Core.List.Memᴰ.head refl))) (mathlib.Core.List.Memᴰ.cases_cons (g x (mathlib.Core.List.Memᴰ.head refl)))

    behind-left : (h : ℕ) → Memᴰ h L → (h ≡ x) ⊎ Memᴰ h X → Memᴰ h X
    behind-left h i (inl p) = absurd (omega (arith, above-all k L a.1 h i, p, same))
    behind-left h i (inr p) = p

    behind-right : (h : ℕ) → Memᴰ h X → (h ≡ k) ⊎ Memᴰ h L → Memᴰ h L
    behind-right h i (inl p) = absurd (omega (arith, above-all x X b.1 h i, p, same))
    behind-right h i (inr p) = p

    into : (h : ℕ) → Memᴰ h L → Memᴰ h X
    into h i = behind-left h i (mathlib.Core.List.Memᴰ.cases_cons (f h (mathlib.Core.List.Memᴰ.tail i)))

    from : (h : ℕ) → Memᴰ h X → Memᴰ h L
    from h i = behind-right h i (mathlib.Core.List.Memᴰ.cases_cons (g h (mathlib.Core.List.Memᴰ.tail i)))

    join : L ≡ X → k ∷ L ≡ x ∷ X
    join e = rw (same, e)

-- The sheets of a list are one list.
sheets-among : {all L hs gs : List ℕ} → Sheets all L hs → Sheets all L gs → (h : ℕ) → Memᴰ h hs → Memᴰ h gs
sheets-among {all} {L} {hs} {gs} s t h i =
    let r = s.each h i in
    let l : 0 < h = above-all 0 hs s.rising h i in
    subst (λ (n : ℕ). Memᴰ n gs) r.2 (t.every r.0 r.1 (rw r.2 l))

pub sheets-one : {all L hs gs : List ℕ} → Sheets all L hs → Sheets all L gs → hs ≡ gs
sheets-one {all} {L} {hs} {gs} s t = rising-one 0 hs gs s.rising t.rising (sheets-among s t) (sheets-among t s)

-- What is found are the sheets.
pub sheets-of : {job w w' : List ℕ} {count c : ℕ} → Found job w w' count c → SheetsOf job w count (sheets_in c w')
sheets-of {job} {w} {w'} {count} {c} f = record { rising = f.right.rising; each = each; every = every }
  where
    all : List ℕ
    all = sheets_of (items_in job)

    each : (h : ℕ) → Memᴰ h (sheets_in c w') → (k : ℕ) × Memᴰ k (list_in count w) × (sheet_no all k ≡ h)
    each h i = let r = in-gather (λ j. get_or all (list_of w j - 1) 0) count h (f.right.each h i) in (list_of w r.0, gather-in (list_of w) count r.0 r.1, r.2)

    every : (k : ℕ) → Memᴰ k (list_in count w) → 0 < sheet_no all k → Memᴰ (sheet_no all k) (sheets_in c w')
    every k i l =
        let r = in-gather (list_of w) count k i in
        let m : Memᴰ (sheet_no all k) (listed_sheets all w count) = subst (λ (n : ℕ). Memᴰ (sheet_no all n) (listed_sheets all w count)) r.2 (gather-in (λ j. get_or all (list_of w j - 1) 0) count r.0 r.1) in
        f.right.every (sheet_no all k) m l

-- The bytes of the field.
pub field-length : (w : List ℕ) (c : ℕ) → length (sheets_bytes (sheets_in c w)) ≡ 3 + 2 * c
field-length w c = length-field 138 (numbers (sheets_in c w)) ∙ ap (λ (n : ℕ). 3 + n) (length-list (sheet_of w) c)

scratch-of : {job w w' : List ℕ} {count c : ℕ} → Found job w w' count c → Within scratch w w'
scratch-of f = within_wider scratch (omega arith) (omega arith) f.kept

pub laid_of : {job w w' room room' : List ℕ} {count at c end : ℕ} → Found job w w' count c → room' ≡ laid at (sheets_bytes (sheets_in c w')) room → end ≡ at + 3 + 2 * c → Laid job w w' room room' count at end
laid_of {w' = w'} {c = c} f e q = record {
  sheets = sheets_in c w';
  right = sheets-of f;
  front = e;
  reached = omega (arith, q, field-length w' c);
  few = omega (arith, f.few, length-gather (sheet_of w') c);
  kept = scratch-of f;
}

pub seen-right : {job w w' report : List ℕ} {count at c end : ℕ} → Found job w w' count c → Holds report at (sheets_bytes (sheets_in c w')) → end ≡ at + 3 + 2 * c → Seen job w w' report count at (Some end)
seen-right {w' = w'} {c = c} f h q = record { stands = (sheets_in c w', sheets-of f, h, omega (arith, q, field-length w' c)); kept = scratch-of f }

pub seen-wrong : {job w w' report : List ℕ} {count at c : ℕ} → Found job w w' count c → (Holds report at (sheets_bytes (sheets_in c w')) → ⊥) → Seen job w w' report count at None
seen-wrong {report = report} {at = at} f h = record { stands = λ hs s k. h (subst (λ (x : List ℕ). Holds report at (sheets_bytes x)) (sheets-one s (sheets-of f)) k); kept = scratch-of f }

-- The field from its parts.
pub held_of : (report : List ℕ) (at c : ℕ) (w : List ℕ) → at < length report → get_or report at 0 ≡ 138 → Holds report (at + 1) (two (2 * c)) → Holds report (at + 3) (numbers (sheets_in c w)) → Holds report at (sheets_bytes (sheets_in c w))
held_of report at c w l k s b =
    subst (λ (x : ℕ). Holds report at (field x (numbers (sheets_in c w)))) k (holds-field report at (numbers (sheets_in c w)) l (rw (length-list (sheet_of w) c) s) b)

pub size-of : (report : List ℕ) (at c : ℕ) (w : List ℕ) → Holds report at (sheets_bytes (sheets_in c w)) → Holds report (at + 1) (two (2 * c))
size-of report at c w h = subst (λ (n : ℕ). Holds report (at + 1) (two n)) (length-list (sheet_of w) c) (front-size report at 138 (numbers (sheets_in c w)) h)
