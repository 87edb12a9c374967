-- MACHINERY for the proofs; no meaning rests on it. Where the search for the reason of a plain harness sheet stands in the work table: all of it in `scratch`, the part in
-- which a reason is looked for. Assumes nothing.
use Rattle.std.specs.Prelude.{ℕ, ◌+◌, ◌*◌, Bool, cond, List}
use Rattle.meaning.specs.Limits.{most_tags, most_records}
use Rattle.table.specs.Map.{seen}
use Rattle.table.specs.Places.{Region, Part, from_to, plain, column_size, LIST, MARKS, SAVED, SINCE}

-- The level of a tag that was not found: more than any tag has.
abbrev pub unfound : ℕ
unfound = most_records

-- By tag: its level, and the last record of the best way to it.
abbrev pub LEVELS : Region
LEVELS = record { at = MARKS.at; size = most_tags; past = λ x. unfound }

abbrev pub LASTS : Region
LASTS = record { at = SAVED.at; size = most_tags; past = λ x. x }

-- What changes while a record is tried: both.
abbrev pub found_part : Part
found_part = from_to MARKS.at SINCE.at

-- By record number: the record before it with the same first tag (or second, where `second` says so). By tag: the last record that has it so.
abbrev pub link_at : Bool → ℕ
link_at second = cond second (LIST.at + column_size) LIST.at

abbrev pub start_at : Bool → ℕ
start_at second = cond second (LIST.at + 2 * column_size + most_tags) (LIST.at + 2 * column_size)

-- By place: the tags in the order in which they were found.
abbrev pub FOUND : Region
FOUND = record { at = LIST.at + 2 * column_size + 2 * most_tags; size = most_tags; past = λ x. x }

-- What filing the records writes, and that with the tags that were found.
abbrev pub filed_part : Part
filed_part = from_to LIST.at FOUND.at

abbrev pub lev_in : List ℕ → ℕ → ℕ
lev_in w = seen LEVELS w

abbrev pub last_in : List ℕ → ℕ → ℕ
last_in w = seen LASTS w

abbrev pub link_in : Bool → List ℕ → ℕ → ℕ
link_in second w = seen (plain (link_at second) column_size) w

abbrev pub start_in : Bool → List ℕ → ℕ → ℕ
start_in second w = seen (plain (start_at second) most_tags) w

abbrev pub found_in : List ℕ → ℕ → ℕ
found_in w = seen FOUND w
