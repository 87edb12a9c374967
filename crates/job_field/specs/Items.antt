-- Document 01, "The job and the report": what a job says once it has been read, and the room its report needs. Document 02, No. 1: tags that must differ; No. 9: sheet numbers.
-- Assumes nothing.
use Rattle.std.specs.Prelude.{ℕ, suc, ◌+◌, ◌*◌, ◌-◌, min, Bool, false, cond, List, [], ◌∷◌, ◌++◌, length}
use Rattle.meaning.specs.Following.{Rec, eq, app}

-- What the first field says: N and U, "where tags from U up are units" (document 02, No. 3), and whether it begins a job of edition 2, where "every 01 and 02
-- record has a sheet number" (No. 9).
pub record Head : Type 0 where
  pub size : ℕ
  pub units : ℕ
  pub sheeted : Bool

-- What a job notes: a record (kinds 01 and 02) with its sheet number, "0 for none", or that two tags must differ (05).
pub data Note : Type 0 where
  line : Rec → ℕ → Note
  differ : ℕ → ℕ → Note

-- The records that a note stands for, in the order of their numbers.
abbrev pub stands_for : Note → List Rec
stands_for (line r h) = r ∷ []
stands_for (differ a b) = []

-- Kind 05 (a, b): two tags that must differ. It joins nothing: it is no record, and has numbers of its own.
pub record Pair : Type 0 where
  pub first : ℕ
  pub second : ℕ

-- The pair that a note says must differ.
abbrev pub pairs_noted : Note → List Pair
pairs_noted (line r h) = []
pairs_noted (differ a b) = record { first = a; second = b } ∷ []

-- The sheet number of a record, beside the record. Edition 1 has none: all are 0.
abbrev pub sheets_in : Note → List ℕ
sheets_in (line r h) = h ∷ []
sheets_in (differ a b) = []

-- The questions: 03 ask, 04 explain, 07 why it is a no (document 02, No. 7), on s and t; 06, which pair that must differ is broken.
pub data Question : Type 0 where
  ask : ℕ → ℕ → Question
  explain : ℕ → ℕ → Question
  broken : Question
  why : ℕ → ℕ → Question

-- A field behind the first one: a note or a question.
pub data Item : Type 0 where
  noted : Note → Item
  posed : Question → Item

-- What reading a job gives: a refusal by number and place, or what the first field says and the items in the order they stand.
pub data Reading : Type 0 where
  refused : ℕ → ℕ → Reading
  accepted : Head → List Item → Reading

-- The items of what was read: none where it was refused.
abbrev pub items_of : Reading → List Item
items_of (refused n p) = []
items_of (accepted H is) = is

-- What the first field says: N and U are 0, and the edition is 1, where there is none to be read.
abbrev pub unsized : Head
unsized = record { size = 0; units = 0; sheeted = false }

abbrev pub head_of : Reading → Head
head_of (refused n p) = unsized
head_of (accepted H is) = H

-- The records in the order they stand; their numbers, from 1, are their places in this list.
abbrev pub records_of : List Item → List Rec
records_of [] = []
records_of (noted n ∷ is) = stands_for n ++ records_of is
records_of (posed q ∷ is) = records_of is

-- The pairs that must differ in the order they stand: "numbered from 1 apart from records".
abbrev pub pairs_of : List Item → List Pair
pairs_of [] = []
pairs_of (noted n ∷ is) = pairs_noted n ++ pairs_of is
pairs_of (posed q ∷ is) = pairs_of is

-- The sheet number of each record, in the order of the records' numbers.
abbrev pub sheets_of : List Item → List ℕ
sheets_of [] = []
sheets_of (noted n ∷ is) = sheets_in n ++ sheets_of is
sheets_of (posed q ∷ is) = sheets_of is

-- The number of questions, of all kinds together.
abbrev pub questions_of : List Item → ℕ
questions_of [] = 0
questions_of (noted n ∷ is) = questions_of is
questions_of (posed q ∷ is) = suc (questions_of is)

-- What stands before an item: so many records, pairs that must differ, and questions.
pub record Moment : Type 0 where
  pub records : ℕ
  pub differs : ℕ
  pub questions : ℕ

-- Nothing stands before the first item; behind an item stands one note or one question more.
abbrev pub start : Moment
start = record { records = 0; differs = 0; questions = 0 }

abbrev pub after : Item → Moment → Moment
after (noted n) b = record { records = b.records + length (stands_for n); differs = b.differs + length (pairs_noted n); questions = b.questions }
after (posed q) b = record { records = b.records; differs = b.differs; questions = b.questions + 1 }

-- "Each explain and each 06 then needs 3 + 2·min(R, 2(N-1)) bytes more": then is in edition 2.
abbrev pub sheet_room : Head → Moment → ℕ
sheet_room H b = cond H.sheeted (3 + 2 * min b.records (2 * (H.size - 1))) 0

-- The room that a question needs, with R the records before it: 7 bytes for an ask; 3 + 2·min(R, 2(N-1)) for an explain; 5 + 2·min(R, 2(N-1)) for a 06; 3 + 2N for a why.
abbrev pub room_for : Head → Moment → Question → ℕ
room_for H b (ask s t) = 7
room_for H b (explain s t) = 3 + 2 * min b.records (2 * (H.size - 1)) + sheet_room H b
room_for H b broken = 5 + 2 * min b.records (2 * (H.size - 1)) + sheet_room H b
room_for H b (why s t) = 3 + 2 * H.size

-- Needed room: that of each question at its moment, and 7 for the totals.
abbrev pub needed_room : Head → Moment → List Item → ℕ
needed_room H b [] = 7
needed_room H b (noted n ∷ is) = needed_room H (after (noted n) b) is
needed_room H b (posed q ∷ is) = room_for H b q + needed_room H (after (posed q) b) is

-- What a report is held against: the first field, the job's records with the sheet of each, and its pairs that must differ.
pub record Matter : Type 0 where
  pub head : Head
  pub records : List Rec
  pub pairs : List Pair
  pub sheets : List ℕ

abbrev pub matter_of : Head → List Item → Matter
matter_of H is = record { head = H; records = records_of is; pairs = pairs_of is; sheets = sheets_of is }

-- The tags of a record, a note, a question and an item, in the order of the job's table. A sheet number is no tag.
abbrev pub tags_of_record : Rec → List ℕ
tags_of_record (eq a b) = a ∷ b ∷ []
tags_of_record (app a b c) = a ∷ b ∷ c ∷ []

abbrev pub tags_of_note : Note → List ℕ
tags_of_note (line r h) = tags_of_record r
tags_of_note (differ a b) = a ∷ b ∷ []

abbrev pub tags_of_question : Question → List ℕ
tags_of_question (ask s t) = s ∷ t ∷ []
tags_of_question (explain s t) = s ∷ t ∷ []
tags_of_question broken = []
tags_of_question (why s t) = s ∷ t ∷ []

abbrev pub tags_of : Item → List ℕ
tags_of (noted n) = tags_of_note n
tags_of (posed q) = tags_of_question q

-- A question and its moment.
pub record Asked : Type 0 where
  pub moment : Moment
  pub question : Question

-- The questions in the order they stand.
abbrev pub asked_of : Moment → List Item → List Asked
asked_of b [] = []
asked_of b (noted n ∷ is) = asked_of (after (noted n) b) is
asked_of b (posed q ∷ is) = record { moment = b; question = q } ∷ asked_of (after (posed q) b) is
