-- The numbers of a body are taken two bytes at a time, and are what a line of a reason has.
-- Assumes nothing.
use Prim.Native.Nat.{ℕ, suc, ◌+◌, ◌-◌, ◌/◌, ◌≤◌, ◌<◌, min}
use native.Mathlib.Omega.{arith}
use mathlib.Core.Path.{◌≡◌, refl, sym, ◌∙◌, ap}
use mathlib.Core.List.{List, [], ◌∷◌, ◌++◌}
use native.Mathlib.Decide.{dec_le}
use lib.ListN.{length, get_or, take, drop, length-take, length-drop, drop_of_length-le}
use borrow.Author.Rules.{part_to_end}
use mathlib.Core.Bool.{Bool, true, false, cond}
use lib.Seq.{slice, slice-cons, slice_empty, length-slice, take_all}
use Rattle.job_field.specs.Reading.{number_at}
use borrow.Author.Tests.{eq-eqb, ne_eqb}
use Rattle.text_line.specs.Line.{parted, line, ask_line}
use Rattle.text_line.proofs.Parted.{parted-append}
use Rattle.text_field.specs.Fields.{numbers_in, part_of, explain_line, broken_line, why_line, field_width, behind_field, sheets_due, sheets_line}

pub length-numbers : (bytes : List ℕ) → length (numbers_in bytes) ≡ length bytes / 2
unfolding numbers_in
length-numbers [] = refl
length-numbers (high ∷ []) = refl
length-numbers (high ∷ low ∷ bytes) = omega (arith, length-numbers bytes)

-- The numbers of a part of the report, one after the other, until fewer than two bytes are left.
pub numbers-next : (report : List ℕ) (p stop : ℕ) → p + 2 ≤ stop → stop ≤ length report → parted (numbers_in (slice p stop report)) ≡ parted (number_at report p ∷ []) ++ parted (numbers_in (slice (p + 2) stop report))
unfolding numbers_in
numbers-next report p stop h l =
    let one : suc p ≡ p + 1 = omega arith in
    let two : suc (p + 1) ≡ p + 2 = omega arith in
    let second : slice (p + 1) stop report ≡ get_or report (p + 1) 0 ∷ slice (p + 2) stop report = rw (← two) (slice-cons (p + 1) stop report 0 (omega arith) l) in
    let both : slice p stop report ≡ get_or report p 0 ∷ get_or report (p + 1) 0 ∷ slice (p + 2) stop report = slice-cons p stop report 0 (omega arith) l ∙ rw (one, second) in
    ap (λ (bytes : List ℕ). parted (numbers_in bytes)) both ∙ parted-append (number_at report p ∷ []) (numbers_in (slice (p + 2) stop report))

pub numbers-none : (report : List ℕ) (p stop : ℕ) → stop - p < 2 → stop ≤ length report → parted (numbers_in (slice p stop report)) ≡ []
unfolding numbers_in parted
numbers-none report p stop h l = short (slice p stop report) (rw (length-slice p stop report l) h)
  where
    short : (bytes : List ℕ) → length bytes < 2 → parted (numbers_in bytes) ≡ []
    short [] h = refl
    short (a ∷ []) h = refl
    short (a ∷ b ∷ bytes) h = absurd (omega arith)

-- A part of the report that is one of the first field, as far as it is there.
pub part_slice : (report : List ℕ) (at from stop : ℕ) → stop ≡ min (3 + number_at report 1) (length report) → from ≡ min at stop → slice from stop report ≡ part_of at report
unfolding part_of
part_slice report at from stop e f = go (dec_le at stop) (dec_le (3 + number_at report 1) (length report))
  where
    go : Dec (at ≤ stop) → Dec (3 + number_at report 1 ≤ length report) → slice from stop report ≡ drop at (take (3 + number_at report 1) report)
    go (yes l) (yes k) =
        let first : from ≡ at = omega arith in
        let size : stop ≡ 3 + number_at report 1 = omega arith in
        rw (first, size)
    go (yes l) (no k) =
        let first : from ≡ at = omega arith in
        rw (first, take_all stop report (omega arith), take_all (3 + number_at report 1) report (omega arith))
    go (no l) k =
        let same : from ≡ stop = omega arith in
        let few : length (take (3 + number_at report 1) report) ≤ at = rw (length-take (3 + number_at report 1) report) (omega arith) in
        rw (same, slice_empty stop report, drop_of_length-le (take (3 + number_at report 1) report) few)

pub length_part : (report : List ℕ) (at from stop : ℕ) → stop ≡ min (3 + number_at report 1) (length report) → from ≡ min at stop → (stop - from) / 2 ≡ length (numbers_in (part_of at report))
length_part report at from stop e f = sym (length-numbers (part_of at report) ∙ ap (λ (n : ℕ). n / 2) (ap length (sym (part_slice report at from stop e f)) ∙ length-slice from stop report (omega arith)))

pub explain_line-reason : (s t kind : ℕ) (ns : List ℕ) → kind ≡ 132 → line 69 (s ∷ t ∷ length ns ∷ ns) ≡ explain_line s t kind ns
unfolding explain_line
explain_line-reason s t kind ns e = rw (eq-eqb kind 132 e)

pub explain_line-none : (s t kind : ℕ) (ns : List ℕ) → (kind ≡ 132 → ⊥) → line 78 (s ∷ t ∷ []) ≡ explain_line s t kind ns
unfolding explain_line
explain_line-none s t kind ns e = rw (ne_eqb kind 132 e)

pub broken_line-breach : (kind number : ℕ) (ns : List ℕ) → kind ≡ 134 → line 67 (number ∷ length ns ∷ ns) ≡ broken_line kind number ns
unfolding broken_line
broken_line-breach kind number ns e = rw (eq-eqb kind 134 e)

pub broken_line-none : (kind number : ℕ) (ns : List ℕ) → (kind ≡ 134 → ⊥) → line 75 [] ≡ broken_line kind number ns
unfolding broken_line
broken_line-none kind number ns e = rw (ne_eqb kind 134 e)

pub why_line-leaders : (s t kind : ℕ) (ns : List ℕ) → kind ≡ 136 → line 87 (s ∷ t ∷ ns) ≡ why_line s t kind ns
unfolding why_line
why_line-leaders s t kind ns e = rw (eq-eqb kind 136 e)

pub why_line-none : (s t kind : ℕ) (ns : List ℕ) → (kind ≡ 136 → ⊥) → line 89 (s ∷ t ∷ []) ≡ why_line s t kind ns
unfolding why_line
why_line-none s t kind ns e = rw (ne_eqb kind 136 e)

-- The lines over equal numbers are one: as lemmas, since the search for them among all that is known takes seconds.
pub ask-as : {s s' t t' l l' m m' : ℕ} → s ≡ s' → t ≡ t' → l ≡ l' → m ≡ m' → ask_line s t l m ≡ ask_line s' t' l' m'
ask-as p q u v = cc

pub explain-as : {s s' t t' : ℕ} (b : ℕ) (ns : List ℕ) → s ≡ s' → t ≡ t' → explain_line s t b ns ≡ explain_line s' t' b ns
explain-as b ns p q = cc

pub why-as : {s s' t t' : ℕ} (b : ℕ) (ns : List ℕ) → s ≡ s' → t ≡ t' → why_line s t b ns ≡ why_line s' t' b ns
why-as b ns p q = cc

-- What stands behind the first field, as far as that is there.
pub drop_min : (n : ℕ) (bytes : List ℕ) → drop (min n (length bytes)) bytes ≡ drop n bytes
drop_min n bytes = go (dec_le n (length bytes))
  where
    go : Dec (n ≤ length bytes) → drop (min n (length bytes)) bytes ≡ drop n bytes
    go (yes h) = let e : min n (length bytes) ≡ n = omega arith in rw e
    go (no h) =
        let e : min n (length bytes) ≡ length bytes = omega arith in
        let l : length bytes ≤ length bytes = omega arith in
        let k : length bytes ≤ n = omega arith in
        rw e (drop_of_length-le bytes l ∙ sym (drop_of_length-le bytes k))

pub behind-is : (report : List ℕ) (first : ℕ) → first ≡ min (field_width report) (length report) → take (length report - first) (drop first report) ≡ behind_field report
behind-is report first e = part_to_end report first ∙ ap (λ (k : ℕ). drop k report) e ∙ drop_min (field_width report) report

-- The line of sheets, and the width of their field, where one is due and where none is.
pub due-line : (e : Bool) (report rest : List ℕ) → sheets_due e report ≡ true → rest ≡ behind_field report → sheets_line rest ≡ cond (sheets_due e report) (sheets_line (behind_field report)) []
due-line e report rest d q = rw (d, q)

pub none-line : (e : Bool) (report : List ℕ) → sheets_due e report ≡ false → [] ≡ cond (sheets_due e report) (sheets_line (behind_field report)) []
none-line e report d = rw d

pub due-width : (e : Bool) (report : List ℕ) (first second : ℕ) → sheets_due e report ≡ true → first ≡ min (field_width report) (length report) → second ≡ min (field_width (behind_field report)) (length (behind_field report))
    → first + second ≡ min (field_width report + cond (sheets_due e report) (field_width (behind_field report)) 0) (length report)
due-width e report first second d p q = rw d (omega (arith, length-drop (field_width report) report))

pub none-width : (e : Bool) (report : List ℕ) (first : ℕ) → sheets_due e report ≡ false → first ≡ min (field_width report) (length report)
    → first ≡ min (field_width report + cond (sheets_due e report) (field_width (behind_field report)) 0) (length report)
none-width e report first d p = rw d (omega arith)
