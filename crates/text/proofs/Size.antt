-- How long a text can be. A number of two bytes has five digits at most, so that a reason's text is at most three times as long as its field, and
-- every other line is short.
-- Assumes nothing.
use Prim.Native.Nat.{ℕ, zero, suc, ◌+◌, ◌*◌, ◌-◌, ◌/◌, ◌%◌, ◌≤◌, ◌<◌, min}
use native.Mathlib.Omega.{arith}
use native.Mathlib.Decide.{dec_lt}
use mathlib.Core.Path.{◌≡◌, refl, ◌∙◌, ap}
use mathlib.Core.Bool.{Bool, true, false, cond}
use mathlib.Core.List.{List, [], ◌∷◌, ◌++◌}
use lib.Dec.{eqb}
use lib.ListN.{length, get_or, take, drop, length-append, length-take, length-drop, get_or-eq_default}
use lib.Seq.{get_or-drop, get_or-take}
use Rattle.meaning.specs.Limits.{most_tags}
use Rattle.job_field.specs.Items.{Head, Question, ask, explain, broken, why, tags_of_question, Item, noted, posed, accepted, questions_of}
use Rattle.job_field.specs.Reading.{byte_at, number_at, behind_at, reading}
use Rattle.job_field.specs.Standing.{Below, Stands, ends, next}
use Rattle.job_field.proofs.Standing.{accepted-stands}
use Rattle.text_line.specs.Digits.{digits}
use Rattle.text_line.specs.Line.{parted, line, ask_line}
use Rattle.text_field.specs.Fields.{numbers_in, part_of, body_of, explain_line, broken_line, why_line, question_line, field_width, behind_field, sheets_due, sheets_line, line_of, width_of, totals_line}
use Rattle.text.specs.Lines.{lines_of, refusal_line}
use Rattle.text_line.proofs.Digits.{digits-one, digits_more}
use Rattle.text_field.proofs.Parts.{length-numbers}

abbrev tens : ℕ → ℕ
tens zero = 1
tens (suc k) = 10 * tens k

-- A number below the k-th power of ten has k digits at most, and one digit at least.
digits-few : (k n : ℕ) → n < tens (suc k) → length (digits n) ≤ suc k
digits-few zero n h = rw (digits-one n (omega arith)) (omega arith)
digits-few (suc k) n h = go (dec_lt n 10) (λ l. digits-few k (n / 10) (omega arith))
  where
    go : Dec (n < 10) → (10 ≤ n → length (digits (n / 10)) ≤ suc k) → length (digits n) ≤ suc (suc k)
    go (yes l) tenth = rw (digits-one n l) (omega arith)
    go (no l) tenth =
        let g : 10 ≤ n = omega arith in
        rw (digits_more n g) (omega (arith, tenth g, length-append (digits (n / 10)) ((48 + n % 10) ∷ [])))

digits-five : (n : ℕ) → n < 65536 → length (digits n) ≤ 5
digits-five n h = digits-few 4 n (omega arith)

-- A number and its space.
parted-more : (n : ℕ) (ns : List ℕ) → length (parted (n ∷ ns)) ≡ 1 + length (digits n) + length (parted ns)
unfolding parted
parted-more n ns = omega (arith, length-append (digits n) (parted ns))

parted-none : length (parted []) ≡ 0
unfolding parted
parted-none = refl

line-size : (letter : ℕ) (ns : List ℕ) → length (line letter ns) ≡ 2 + length (parted ns)
unfolding line
line-size letter ns = omega (arith, length-append (parted ns) (10 ∷ []))

-- All that is lent as bytes is below 256, so that its numbers are below 65,536.
abbrev pub Bytes : List ℕ → Type 0
Bytes report = (k : ℕ) → get_or report k 0 < 256

numbers-size : (bytes : List ℕ) → Bytes bytes → length (parted (numbers_in bytes)) ≤ 3 * length bytes
unfolding numbers_in
numbers-size [] b = omega (arith, parted-none)
numbers-size (high ∷ []) b = omega (arith, parted-none)
numbers-size (high ∷ low ∷ bytes) b =
    let n : ℕ = high * 256 + low in
    let h : high < 256 = b 0 in
    let l : low < 256 = b 1 in
    omega (arith, parted-more n (numbers_in bytes), digits-five n (omega arith), numbers-size bytes (λ k. b (suc (suc k))))

bytes_drop : (n : ℕ) (report : List ℕ) → Bytes report → Bytes (drop n report)
bytes_drop n report b k = rw (get_or-drop n report k 0) (b (n + k))

pub bytes_take : (n : ℕ) (report : List ℕ) → Bytes report → Bytes (take n report)
bytes_take n report b k = go (dec_lt k n)
  where
    go : Dec (k < n) → get_or (take n report) k 0 < 256
    go (yes l) = rw (get_or-take n report k 0 l) (b k)
    go (no l) =
        let few : length (take n report) ≤ k = rw (length-take n report) (omega arith) in
        rw (get_or-eq_default (take n report) 0 few) (omega arith)

pair_size : (letter s t : ℕ) → s < 65536 → t < 65536 → length (line letter (s ∷ t ∷ [])) ≤ 14
pair_size letter s t h k = omega (arith, line-size letter (s ∷ t ∷ []), parted-more s (t ∷ []), parted-more t [], parted-none, digits-five s h, digits-five t k)

ask-size : (s t l m : ℕ) → s < 65536 → t < 65536 → l < 65536 → m < 65536 → length (ask_line s t l m) ≤ 26
unfolding ask_line
ask-size s t l m a b c d = go (eqb l m)
  where
    go : (same : Bool) → length (cond same (line 83 (s ∷ t ∷ l ∷ [])) (line 68 (s ∷ t ∷ l ∷ m ∷ []))) ≤ 26
    go true = omega (arith, line-size 83 (s ∷ t ∷ l ∷ []), parted-more s (t ∷ l ∷ []), parted-more t (l ∷ []), parted-more l [], parted-none, digits-five s a, digits-five t b, digits-five l c)
    go false = omega (arith, line-size 68 (s ∷ t ∷ l ∷ m ∷ []), parted-more s (t ∷ l ∷ m ∷ []), parted-more t (l ∷ m ∷ []), parted-more l (m ∷ []), parted-more m [], parted-none, digits-five s a, digits-five t b, digits-five l c, digits-five m d)

module _ (report : List ℕ) (b : Bytes report) where
  number_small : (at : ℕ) → number_at report at < 65536
  number_small at = omega (arith, b at, b (at + 1))

  length_part : (at : ℕ) → length (part_of at report) ≡ min (3 + number_at report 1) (length report) - at
  unfolding part_of
  length_part at = length-drop at (take (3 + number_at report 1) report) ∙ ap (λ (n : ℕ). n - at) (length-take (3 + number_at report 1) report)

  part_bytes : (at : ℕ) → Bytes (part_of at report)
  unfolding part_of
  part_bytes at = bytes_drop at (take (3 + number_at report 1) report) (bytes_take (3 + number_at report 1) report b)

  explain-size : (s t kind : ℕ) → s < 65536 → t < 65536 → length (explain_line s t kind (numbers_in (body_of report))) ≤ 20 + 3 * length (body_of report)
  unfolding explain_line
  explain-size s t kind h k = go (eqb kind 132)
    where
      go : (reasoned : Bool) → length (cond reasoned (line 69 (s ∷ t ∷ length (numbers_in (body_of report)) ∷ numbers_in (body_of report))) (line 78 (s ∷ t ∷ []))) ≤ 20 + 3 * length (body_of report)
      go true =
          let ns : List ℕ = numbers_in (body_of report) in
          let many : length ns < 65536 = omega (arith, length-numbers (body_of report), length_part 3, number_small 1) in
          omega (arith, line-size 69 (s ∷ t ∷ length ns ∷ ns), parted-more s (t ∷ length ns ∷ ns), parted-more t (length ns ∷ ns), parted-more (length ns) ns, digits-five s h, digits-five t k, digits-five (length ns) many, numbers-size (body_of report) (part_bytes 3))
      go false = omega (arith, pair_size 78 s t h k)

  broken-size : (kind : ℕ) → length (broken_line kind (number_at report 3) (numbers_in (part_of 5 report))) ≤ 14 + 3 * length (body_of report)
  unfolding broken_line
  broken-size kind = go (eqb kind 134)
    where
      go : (breached : Bool) → length (cond breached (line 67 (number_at report 3 ∷ length (numbers_in (part_of 5 report)) ∷ numbers_in (part_of 5 report))) (line 75 [])) ≤ 14 + 3 * length (body_of report)
      go true =
          let k : ℕ = number_at report 3 in
          let ns : List ℕ = numbers_in (part_of 5 report) in
          let many : length ns < 65536 = omega (arith, length-numbers (part_of 5 report), length_part 5, number_small 1) in
          omega (arith, line-size 67 (k ∷ length ns ∷ ns), parted-more k (length ns ∷ ns), parted-more (length ns) ns, digits-five k (number_small 3), digits-five (length ns) many, numbers-size (part_of 5 report) (part_bytes 5), length_part 3, length_part 5)
      go false = omega (arith, line-size 75 [], parted-none)

  why-size : (s t kind : ℕ) → s < 65536 → t < 65536 → length (why_line s t kind (numbers_in (body_of report))) ≤ 20 + 3 * length (body_of report)
  unfolding why_line
  why-size s t kind h k = go (eqb kind 136)
    where
      go : (differs : Bool) → length (cond differs (line 87 (s ∷ t ∷ numbers_in (body_of report))) (line 89 (s ∷ t ∷ []))) ≤ 20 + 3 * length (body_of report)
      go true =
          let ns : List ℕ = numbers_in (body_of report) in
          omega (arith, line-size 87 (s ∷ t ∷ ns), parted-more s (t ∷ ns), parted-more t ns, digits-five s h, digits-five t k, numbers-size (body_of report) (part_bytes 3))
      go false = omega (arith, pair_size 89 s t h k)

-- The line of a question: three bytes for each byte of its answer's body, and 26 more.
question-size : (report : List ℕ) → Bytes report → (N : ℕ) (q : Question) → N ≤ most_tags → Below N (tags_of_question q) → length (question_line q report) ≤ 26 + 3 * length (body_of report)
question-size report b N (ask x y) small t = omega (arith, ask-size x y (number_at report 3) (number_at report 5) (omega (arith, t.0)) (omega (arith, t.1.0)) (number_small report b 3) (number_small report b 5))
question-size report b N (explain x y) small t = omega (arith, explain-size report b x y (byte_at report 0) (omega (arith, t.0)) (omega (arith, t.1.0)))
question-size report b N broken small t = omega (arith, broken-size report b (byte_at report 0))
question-size report b N (why x y) small t = omega (arith, why-size report b x y (byte_at report 0) (omega (arith, t.0)) (omega (arith, t.1.0)))

-- The line of the sheets: three bytes for each byte of their field's body, and 8 more.
sheets-size : (report : List ℕ) → Bytes report → length (sheets_line report) ≤ 8 + 3 * length (body_of report)
unfolding sheets_line
sheets-size report b =
    let ns : List ℕ = numbers_in (body_of report) in
    let many : length ns < 65536 = omega (arith, length-numbers (body_of report), length_part report b 3, number_small report b 1) in
    omega (arith, line-size 72 (length ns ∷ ns), parted-more (length ns) ns, digits-five (length ns) many, numbers-size (body_of report) (part_bytes report b 3))

-- The lines of a question and what stands behind its fields: three bytes for each byte of the report before that, and 34 more.
answer-size : (e : Bool) (report : List ℕ) → Bytes report → (N : ℕ) (q : Question) → N ≤ most_tags → Below N (tags_of_question q)
    → length (line_of e (posed q) report) + 3 * length (drop (width_of e (posed q) report) report) ≤ 3 * length report + 34
answer-size e report b N q small t = go (sheets_due e report)
  where
    rest : List ℕ
    rest = behind_field report

    go : (d : Bool) → length (question_line q report ++ cond d (sheets_line rest) []) + 3 * length (drop (field_width report + cond d (field_width rest) 0) report) ≤ 3 * length report + 34
    go false = omega (arith, length-append (question_line q report) [], length-drop (field_width report + 0) report, length_part report b 3, question-size report b N q small t)
    go true =
        let c : Bytes rest = bytes_drop (field_width report) report b in
        omega (arith, length-append (question_line q report) (sheets_line rest), length-drop (field_width report + field_width rest) report, length-drop (field_width report) report, length_part report b 3, question-size report b N q small t, length_part rest c 3, sheets-size rest c)

-- The lines of the items that stand in a job: three bytes for each byte of the report, and 34 for each question.
lines-size : (v : Bool) (job : List ℕ) (N at : ℕ) (items : List Item) → N ≤ most_tags → Stands job N at items → (report : List ℕ) → Bytes report
    → length (lines_of v items report) ≤ 3 * length report + 34 * questions_of items + 14
unfolding lines_of totals_line
lines-size v job N at items small (ends e l) report b = omega (arith, pair_size 84 (number_at report 3) (number_at report 5) (number_small report b 3) (number_small report b 5))
lines-size v job N at items small (next {i = noted n} {is = is} e t f l s) report b = lines-size v job N (behind_at job at) is small s report b
lines-size v job N at items small (next {i = posed q} {is = is} e t f l s) report b =
    let rest : List ℕ = drop (width_of v (posed q) report) report in
    omega (arith, length-append (line_of v (posed q) report) (lines_of v is rest), answer-size v report b N q small t, lines-size v job N (behind_at job at) is small s rest (bytes_drop (width_of v (posed q) report) report b))

-- A report of at most 60,000 bytes has a text of at most 214,014.
pub report-size : (job : List ℕ) (H : Head) (items : List Item) → reading job ≡ accepted H items → (report : List ℕ) → Bytes report → length report ≤ 60000 → length (lines_of H.sheeted items report) ≤ 214014
report-size job H items e report b h =
    let j = accepted-stands job H items e in
    omega (arith, j.questions, lines-size H.sheeted job H.size (behind_at job 0) items j.most j.stands report b)

-- A refusal is a short line, whatever its number and place.
pub refusal-size : (number place : ℕ) → number < 256 → place < 18446744073709551616 → length (refusal_line number place) ≤ 214014
unfolding refusal_line
refusal-size number place h k = omega (arith, line-size 82 (number ∷ place ∷ []), parted-more number (place ∷ []), parted-more place [], parted-none, digits-five number (omega arith), digits-few 19 place (omega arith))
