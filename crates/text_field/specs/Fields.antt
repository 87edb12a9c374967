-- Document 01, "The program": tagcheck writes one line an item, fields parted by one space, decimal. The line of one item by the report from the
-- item's field on, byte by byte. Document 02, No. 1: the lines `C` and `K`; No. 9: the line `H`.
-- Assumes nothing.
use Rattle.std.specs.Prelude.{ℕ, ◌+◌, ◌*◌, Bool, cond, ◌&&◌, ◌||◌, List, [], ◌∷◌, ◌++◌, eqb, length, take, drop}
use Rattle.job_field.specs.Items.{Question, ask, explain, broken, why, Item, noted, posed}
use Rattle.job_field.specs.Reading.{Field, bad, header, item, end, byte_at, number_at}
use Rattle.text_line.specs.Line.{line, ask_line}

-- The numbers of a body: two bytes each, high byte first.
unfoldable pub numbers_in : List ℕ → List ℕ
numbers_in [] = []
numbers_in (high ∷ []) = []
numbers_in (high ∷ low ∷ bytes) = (high * 256 + low) ∷ numbers_in bytes

-- A field is one kind byte, a two-byte length, then the body. A byte that is not there counts as 0. The first field of the report from a
-- byte of it on, and its body.
unfoldable pub part_of : ℕ → List ℕ → List ℕ
part_of from report = drop from (take (3 + number_at report 1) report)

abbrev pub body_of : List ℕ → List ℕ
body_of report = part_of 3 report

-- `E s t k` and k record numbers, for a field of kind 84 hex (132); `N s t` (explain, does not follow).
unfoldable pub explain_line : ℕ → ℕ → ℕ → List ℕ → List ℕ
explain_line s t kind ns = cond (eqb kind 132) (line 69 (s ∷ t ∷ length ns ∷ ns)) (line 78 (s ∷ t ∷ []))

-- `C number k` and the k record numbers, for a field of kind 86 hex (134); `K`.
unfoldable pub broken_line : ℕ → ℕ → List ℕ → List ℕ
broken_line kind number ns = cond (eqb kind 134) (line 67 (number ∷ length ns ∷ ns)) (line 75 [])

-- Document 02, No. 7: `W s t` and the N leaders, for a field of kind 88 hex (136); `Y s t` (the equality follows).
unfoldable pub why_line : ℕ → ℕ → ℕ → List ℕ → List ℕ
why_line s t kind ns = cond (eqb kind 136) (line 87 (s ∷ t ∷ ns)) (line 89 (s ∷ t ∷ []))

-- The line of a question, with the report from its field on. A body's first two numbers stand at 3 and 5.
abbrev pub question_line : Question → List ℕ → List ℕ
question_line (ask s t) report = ask_line s t (number_at report 3) (number_at report 5)
question_line (explain s t) report = explain_line s t (byte_at report 0) (numbers_in (body_of report))
question_line broken report = broken_line (byte_at report 0) (number_at report 3) (numbers_in (part_of 5 report))
question_line (why s t) report = why_line s t (byte_at report 0) (numbers_in (body_of report))

-- The first field of the report, in bytes, and what stands behind it.
abbrev pub field_width : List ℕ → ℕ
field_width report = 3 + number_at report 1

abbrev pub behind_field : List ℕ → List ℕ
behind_field report = drop (field_width report) report

-- Whether a field of sheets stands behind the first field: in edition 2, behind an 84 (132) or 86 (134).
abbrev pub sheets_due : Bool → List ℕ → Bool
sheets_due e report = e && (eqb (byte_at report 0) 132 || eqb (byte_at report 0) 134)

-- "tagcheck adds a line `H` with their count and numbers", with the report from the field of sheets on.
unfoldable pub sheets_line : List ℕ → List ℕ
sheets_line report = line 72 (length (numbers_in (body_of report)) ∷ numbers_in (body_of report))

-- The lines of an item: a note has none, and a question has the line of its sheets behind its own, where a field of them is due.
abbrev pub line_of : Bool → Item → List ℕ → List ℕ
line_of e (noted n) report = []
line_of e (posed q) report = question_line q report ++ cond (sheets_due e report) (sheets_line (behind_field report)) []

-- The bytes of an item's fields in the report: a question has one field, and that of its sheets where one is due; a note has none.
abbrev pub width_of : Bool → Item → List ℕ → ℕ
width_of e (noted n) report = 0
width_of e (posed q) report = field_width report + cond (sheets_due e report) (field_width (behind_field report)) 0

-- `T classes idle`.
unfoldable pub totals_line : List ℕ → List ℕ
totals_line report = line 84 (number_at report 3 ∷ number_at report 5 ∷ [])

-- What a field of the job adds to the text, with the report from its own field on, and how far it goes in the report.
abbrev pub text_at : Bool → Field → List ℕ → List ℕ
text_at e (item i) report = line_of e i report
text_at e end report = totals_line report
text_at e (bad n) report = []
text_at e (header H) report = []

abbrev pub width_at : Bool → Field → List ℕ → ℕ
width_at e (item i) report = width_of e i report
width_at e end report = 0
width_at e (bad n) report = 0
width_at e (header H) report = 0
