-- Document 01's limits, each once and under its name. The code has the same names in src/lib.rt.
-- Assumes nothing.
use Rattle.std.specs.Prelude.{ℕ}

-- "first field, once; N from 1 to 1,000".
abbrev pub most_tags : ℕ
most_tags = 1000

-- "At most 4,000 records and 1,000 questions (03 and 04 together)"; document 02, No. 1: 06 among them.
abbrev pub most_records : ℕ
most_records = 4000

abbrev pub most_questions : ℕ
most_questions = 1000

-- Document 02, No. 1: "kind 05 (a, b; at most 500, numbered from 1 apart from records)".
abbrev pub most_differs : ℕ
most_differs = 500

-- Document 02, No. 9: "a sheet number, 0 to 9,999".
abbrev pub most_sheet : ℕ
most_sheet = 9999

-- "a record table of 4,000 places, each a kind and three numbers, and a work table of 32,768 two-byte numbers".
abbrev pub named_places : ℕ
named_places = 4000

abbrev pub named_numbers : ℕ
named_numbers = 32768
