-- Document 01, "The job and the report" and "What is lent, and each refusal": the job is read front to back, one field at a time,
-- and every byte string is accepted or refused by number and place. Document 02, No. 1: kinds 05 and 06; No. 2: which number was wrong; No. 3: a header with U; No. 7: kind 07; No. 9: edition 2.
-- Assumes nothing.
use Rattle.std.specs.Prelude.{ℕ, zero, suc, ◌+◌, ◌*◌, Bool, true, false, cond, ◌&&◌, List, [], ◌∷◌, eqb, ltb, leb, length, get_or}
use Rattle.meaning.specs.Following.{eq, app}
use Rattle.meaning.specs.Limits.{most_differs, most_questions, most_records, most_sheet, most_tags}
use Rattle.job_field.specs.Items.{Head, Note, line, differ, pairs_noted, Item, noted, posed, ask, explain, broken, why, stands_for, tags_of, Moment, start, after, Reading, refused, accepted, unsized, head_of, items_of, Matter, matter_of}

-- All numbers are two bytes, high byte first.
abbrev pub byte_at : List ℕ → ℕ → ℕ
byte_at job at = get_or job at 0

abbrev pub number_at : List ℕ → ℕ → ℕ
number_at job at = byte_at job at * 256 + byte_at job (at + 1)

-- The kinds of the job's table, and one more for a byte that is no kind there.
pub data Kind : Type 0 where
  first first-units first-sheets record-eq record-app sheeted-eq sheeted-app note-differ question-ask question-explain question-broken question-why last unknown : Kind

-- What a field says: nothing, with the number of its refusal; what the first field says; an item; that the job ends.
pub data Field : Type 0 where
  bad : ℕ → Field
  header : Head → Field
  item : Item → Field
  end : Field

-- The job's table, line by line: the byte of each kind, the bytes of its body, and what its numbers say. The kind that a byte names:
-- 10 hex (16) is the first field, once, so that it stands at 0 and nowhere else, and at 0 nothing else stands; 7F hex (127) is the end.
-- "Allow a header of length 4: N and U": the length that the first field states says which of its two kinds it is.
-- "Edition 2 of the job starts with kind 11 hex (17) in place of 10"; "4 for a second header of either kind".
abbrev pub kind_first : ℕ → ℕ → Kind
kind_first b n = cond (eqb b 16) (cond (eqb n 4) first-units first) (cond (eqb b 17) first-sheets unknown)

abbrev pub kind_later : ℕ → Kind
kind_later b =
    cond (eqb b 1) record-eq
    (cond (eqb b 2) record-app
    (cond (eqb b 3) question-ask
    (cond (eqb b 4) question-explain
    (cond (eqb b 5) note-differ
    (cond (eqb b 6) question-broken
    (cond (eqb b 7) question-why
    (cond (eqb b 127) last unknown)))))))

-- In edition 2 "every 01 and 02 record has a sheet number at its end", "and question kinds stay": the other kinds are those of edition 1.
abbrev pub kind_sheeted : ℕ → Kind
kind_sheeted b = cond (eqb b 1) sheeted-eq (cond (eqb b 2) sheeted-app (kind_later b))

abbrev pub kind_by_edition : Bool → ℕ → Kind
kind_by_edition e b = cond e (kind_sheeted b) (kind_later b)

-- Edition 2 is told by the job's first byte.
abbrev pub sheeted_in : List ℕ → Bool
sheeted_in job = eqb (byte_at job 0) 17

abbrev pub kind_at : Bool → ℕ → ℕ → ℕ → Kind
kind_at e at b n = cond (eqb at 0) (kind_first b n) (kind_by_edition e b)

-- The bytes of each kind's body: N; N, U; N, U; a, b; a, b, c; a, b, sheet; a, b, c, sheet; a, b; s, t; s, t; none; s, t; none.
abbrev pub length_of_body : Kind → ℕ
length_of_body first = 2
length_of_body first-units = 4
length_of_body first-sheets = 4
length_of_body record-eq = 4
length_of_body record-app = 6
length_of_body sheeted-eq = 6
length_of_body sheeted-app = 8
length_of_body note-differ = 4
length_of_body question-ask = 4
length_of_body question-explain = 4
length_of_body question-broken = 0
length_of_body question-why = 4
length_of_body last = 0
length_of_body unknown = 0

-- What a kind says with the numbers of its body, of which there are four at most. "A header of length 2 means U = N." In edition 1 no record has a sheet.
abbrev pub says : Kind → ℕ → ℕ → ℕ → ℕ → Field
says first a b c d = header (record { size = a; units = a; sheeted = false })
says first-units a b c d = header (record { size = a; units = b; sheeted = false })
says first-sheets a b c d = header (record { size = a; units = b; sheeted = true })
says record-eq a b c d = item (noted (line (eq a b) 0))
says record-app a b c d = item (noted (line (app a b c) 0))
says sheeted-eq a b c d = item (noted (line (eq a b) c))
says sheeted-app a b c d = item (noted (line (app a b c) d))
says note-differ a b c d = item (noted (differ a b))
says question-ask a b c d = item (posed (ask a b))
says question-explain a b c d = item (posed (explain a b))
says question-broken a b c d = item (posed broken)
says question-why a b c d = item (posed (why a b))
says last a b c d = end
says unknown a b c d = bad 4

-- Every kind of the table is known.
abbrev pub known : Kind → Bool
known first = true
known first-units = true
known first-sheets = true
known record-eq = true
known record-app = true
known sheeted-eq = true
known sheeted-app = true
known note-differ = true
known question-ask = true
known question-explain = true
known question-broken = true
known question-why = true
known last = true
known unknown = false

-- The length that a field states, and the place behind the field: its three bytes and as many as it states.
abbrev pub length_at : List ℕ → ℕ → ℕ
length_at job at = number_at job (at + 1)

abbrev pub behind_at : List ℕ → ℕ → ℕ
behind_at job at = at + (3 + length_at job at)

-- The field of a kind whose body stands at a place.
abbrev pub body_at : List ℕ → ℕ → Kind → Field
body_at job at k = says k (number_at job at) (number_at job (at + 2)) (number_at job (at + 4)) (number_at job (at + 6))

-- The test must hold, or else the field is refused by the number.
abbrev pub or_else : Bool → ℕ → Field → Field
or_else true n f = f
or_else false n f = bad n

-- The first half of the order for a field: three bytes present (else 3); kind known and in its place (4); length right for the kind
-- (5); body present (3).
abbrev pub field_of_kind : List ℕ → ℕ → Kind → Field
field_of_kind job at k =
    or_else (known k) 4
    (or_else (eqb (length_at job at) (length_of_body k)) 5
    (or_else (leb (behind_at job at) (length job)) 3 (body_at job (at + 3) k)))

unfoldable pub field_standing : List ℕ → ℕ → Field
field_standing job at = or_else (leb (at + 3) (length job)) 3 (field_of_kind job at (kind_at (sheeted_in job) at (byte_at job at) (length_at job at)))

-- The records that a note stands for are counted with those before it, and so are its pair that must differ and a question.
abbrev pub counted : Moment → Field → Bool
counted b (bad n) = true
counted b (header M) = true
counted b (item (noted n)) = leb (b.records + length (stands_for n)) most_records && leb (b.differs + length (pairs_noted n)) most_differs
counted b (item (posed q)) = ltb b.questions most_questions
counted b end = true

-- N is from 1 to 1,000, and U is not above N.
abbrev pub size_right : Head → Bool
size_right M = ltb 0 M.size && (leb M.size most_tags && leb M.units M.size)

abbrev pub sized : Field → Bool
sized (bad n) = true
sized (header M) = size_right M
sized (item i) = true
sized end = true

-- The tags of a field, in the order of its body.
abbrev pub field_tags : Field → List ℕ
field_tags (bad n) = []
field_tags (header M) = []
field_tags (item i) = tags_of i
field_tags end = []

-- "A tag of N or more gets its own number. If several are wrong the first is told": a number for the first tag, the next one for the second, and so on.
abbrev pub tagged : ℕ → ℕ → List ℕ → Field → Field
tagged N n [] f = f
tagged N n (t ∷ ts) f = or_else (ltb t N) n (tagged N (suc n) ts f)

-- "A sheet number, 0 to 9,999".
abbrev pub note_is_filed : Note → Bool
note_is_filed (line r h) = leb h most_sheet
note_is_filed (differ a b) = true

abbrev pub filed : Field → Bool
filed (bad n) = true
filed (header M) = true
filed (item (noted n)) = note_is_filed n
filed (item (posed q)) = true
filed end = true

-- The second half of the order: count limit (7); N and U (6); "11, 12, 13 for first, second and third tag, in 6's place in the order"; "17 for a sheet above
-- 9,999, after the tags".
unfoldable pub checked : Head → Moment → Field → Field
checked H b f = or_else (counted b f) 7 (or_else (sized f) 6 (tagged H.size 11 (field_tags f) (or_else (filed f) 17 f)))

-- "Its place is that number's first byte": how far behind the field's first byte the place of a refusal is. The sheet has the last two bytes of its field, one
-- more behind the first byte than the length that the field states.
abbrev pub offset_of : ℕ → ℕ → ℕ
offset_of l n = cond (eqb n 11) 3 (cond (eqb n 12) 5 (cond (eqb n 13) 7 (cond (eqb n 17) (l + 1) 0)))

-- What is read behind an item, with the item before it.
abbrev pub with : Item → Reading → Reading
with i (refused n p) = refused n p
with i (accepted H is) = accepted H (i ∷ is)

-- Nothing follows the end field: a byte after it is refused by 8 at that byte.
abbrev pub behind : List ℕ → Head → ℕ → Reading
behind job H at = cond (leb (length job) at) (accepted H []) (refused 8 at)

-- What a field at a place leads to, with what the first field said and the moment before it: a refusal has its place in the field;
-- from the others reading goes on behind the field.
abbrev pub onward : (Head → Moment → ℕ → Reading) → List ℕ → Head → Moment → ℕ → Field → Reading
onward read job H b at (bad n) = refused n (at + offset_of (length_at job at) n)
onward read job H b at (header M) = read M b (behind_at job at)
onward read job H b at (item i) = with i (read H (after i b) (behind_at job at))
onward read job H b at end = behind job H (behind_at job at)

-- Reading from a place, at most so many fields. A field has three bytes at least, so that a number above the bytes that are left is
-- never spent (proofs/Reading, read-enough).
unfoldable pub read_from : ℕ → List ℕ → Head → Moment → ℕ → Reading
read_from zero job H b at = refused 3 at
read_from (suc n) job H b at = onward (read_from n job) job H b at (checked H b (field_standing job at))

-- The whole job, from its first byte. No N stands before the first field, which is the only one that needs none.
unfoldable pub reading : List ℕ → Reading
reading job = read_from (suc (length job)) job unsized start 0

-- U by a field: that of the first one, and 0 by any other.
abbrev pub units_stated : Field → ℕ
units_stated (bad n) = 0
units_stated (header H) = H.units
units_stated (item i) = 0
units_stated end = 0

-- Whether a field begins an edition 2 job: the first one says it, and no other does.
abbrev pub edition_of : Field → Bool
edition_of (bad n) = false
edition_of (header H) = H.sheeted
edition_of (item i) = false
edition_of end = false

-- What its first field says, its items, and what its report is held against, as functions of the job's bytes.
abbrev pub head_in : List ℕ → Head
head_in job = head_of (reading job)

abbrev pub items_in : List ℕ → List Item
items_in job = items_of (reading job)

abbrev pub matter_in : List ℕ → Matter
matter_in job = matter_of (head_in job) (items_in job)

-- The longest job, 46,510 bytes: 7 + 36,000 + 3,500 + 7,000 + 3; "edition 2 (first byte 11)" 54,510: 7 + 44,000 + 3,500 + 7,000 + 3. Refusal 1 holds a job
-- against it.
abbrev pub longest : List ℕ → ℕ
longest job = cond (sheeted_in job) 54510 46510

-- The named places: 4,000 of the record table, 32,768 of the work table. Refusal 2 holds the tables against them.
