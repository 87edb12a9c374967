-- The map of the work table in names: its regions, and the parts of it that change together. src/map.rt draws it, and has the same names for the
-- code. Where a region stands is written here and there, and nowhere else.
-- Assumes nothing.
use Rattle.std.specs.Prelude.{ℕ, ◌+◌, ◌-◌, ◌*◌, ◌≤◌, Bool, cond, List, length}
use Rattle.meaning.specs.Limits.{most_tags, most_records, most_differs, named_numbers}

-- The table is as long as document 01 names it, or longer.
abbrev pub Large : List ℕ → Type 0
Large w = named_numbers ≤ length w

-- A region begins at a place and has so many; what lies past its end is given by a rule, so that laws need no bound.
pub record Region : Type 0 where
  pub at : ℕ
  pub size : ℕ
  pub past : ℕ → ℕ

-- The first n places of a region, and a region with no name of its own.
abbrev pub front_of : Region → ℕ → Region
front_of r n = record { at = r.at; size = n; past = r.past }

abbrev pub plain : ℕ → ℕ → Region
plain a n = record { at = a; size = n; past = λ x. 0 }

-- Place 0 of a column is no record's. A result of 65,535, which is no tag, marks an equation.
abbrev pub column_size : ℕ
column_size = 1 + most_records

abbrev pub EQUATION : ℕ
EQUATION = 65535

-- By record number: the tags of the record.
abbrev pub LEFT : Region
LEFT = record { at = 0; size = column_size; past = λ x. 0 }

abbrev pub RIGHT : Region
RIGHT = record { at = 4001; size = column_size; past = λ x. 0 }

abbrev pub RESULT : Region
RESULT = record { at = 8002; size = column_size; past = λ x. 0 }

-- By tag: the tag it was linked under, and the age of the join that did so (as many as tags can be where it leads its class, which is no age).
abbrev pub PARENT : Region
PARENT = record { at = 12003; size = most_tags; past = λ x. x }

abbrev pub AGE : Region
AGE = record { at = 13003; size = most_tags; past = λ x. most_tags }

-- By age: the join's first record, its second, and the record at which it was made.
abbrev pub FIRST : Region
FIRST = record { at = 14003; size = most_tags; past = λ x. 0 }

abbrev pub SECOND : Region
SECOND = record { at = 15003; size = most_tags; past = λ x. 0 }

abbrev pub WHEN : Region
WHEN = record { at = 16003; size = most_tags; past = λ x. 0 }

-- By place: record numbers. Those that wait while a reason is made stand from place `waiting_at` on.
abbrev pub LIST : Region
LIST = record { at = 17003; size = most_records; past = λ x. 0 }

abbrev pub waiting_at : ℕ
waiting_at = 2 * most_tags

-- They are two for each join at most: document 01's 2(N-1).
abbrev pub most_waiting : ℕ
most_waiting = 2 * (most_tags - 1)

-- Scratch of the closure of a list: labels by tag, chains by place, and where each chain begins by bucket.
abbrev pub LABEL : Region
LABEL = record { at = 21003; size = most_tags; past = λ x. x }

abbrev pub NEXT : Region
NEXT = record { at = 22003; size = most_records; past = λ x. 0 }

abbrev pub head_count : ℕ
head_count = 4093

abbrev pub HEADS : Region
HEADS = record { at = 26003; size = head_count; past = λ x. 0 }

-- By age: 1 where the join is taken into a reason. By tag: labels that a later closure begins with.
abbrev pub MARKS : Region
MARKS = record { at = 30096; size = most_tags; past = λ x. 0 }

abbrev pub SAVED : Region
SAVED = record { at = 31096; size = most_tags; past = λ x. x }

-- By place of a pair that must differ: the record at which its tags became equal. Then places that nothing has.
abbrev pub SINCE : Region
SINCE = record { at = 32096; size = most_differs; past = λ x. 0 }

-- While spare records are taken out other regions stand behind the front of the list, with the labels where they are. By place: the front of the
-- list, with 0 where a record was left out.
abbrev pub front_size : ℕ
front_size = waiting_at

abbrev pub FRONT : Region
FRONT = front_of LIST front_size

-- By tag: the next tag of its class; and of a label, how heavy its class is. By join: the label that went.
abbrev pub MEMBER : Region
MEMBER = record { at = 19003; size = most_tags; past = λ x. x }

abbrev pub WEIGHT : Region
WEIGHT = record { at = 20003; size = most_tags; past = λ x. 0 }

abbrev pub TRAIL : Region
TRAIL = record { at = 22003; size = most_tags; past = λ x. 0 }

-- By tag: the last place whose record has it for its first tag, and the same of the second. By place: the last place before it with the same first
-- tag, and the same of the second.
abbrev pub ENDS : Region
ENDS = record { at = 23003; size = most_tags; past = λ x. 0 }

abbrev pub TAILS : Region
TAILS = record { at = 24003; size = most_tags; past = λ x. 0 }

abbrev pub BEFORE : Region
BEFORE = record { at = 25003; size = front_size; past = λ x. 0 }

abbrev pub PRIOR : Region
PRIOR = record { at = 27003; size = front_size; past = λ x. 0 }

-- By place: whether it is in, and whether it waits.
abbrev pub QUEUE : Region
QUEUE = record { at = 29003; size = front_size; past = λ x. 0 }

-- Of the first argument, or of the second where `second` says so.
abbrev pub end_at : Bool → ℕ
end_at second = cond second TAILS.at ENDS.at

abbrev pub before_at : Bool → ℕ
before_at second = cond second PRIOR.at BEFORE.at

-- While all records are closed other regions stand from the list on, with the labels where they are. By place: the last place before it with
-- the same first tag, the same of the second, and the link of its chain, or for a place that waits `WAITS` more than the next that does.
abbrev pub MORE : Region
MORE = record { at = 17003; size = most_records; past = λ x. 0 }

abbrev pub OTHER : Region
OTHER = record { at = 22003; size = most_records; past = λ x. 0 }

abbrev pub CHAIN : Region
CHAIN = record { at = 26003; size = most_records; past = λ x. 0 }

abbrev pub WAITS : ℕ
WAITS = 1 + column_size

-- By bucket: where each chain begins. By tag: the last place whose record has it for its first tag, and the same of the second.
abbrev pub bucket_count : ℕ
bucket_count = 761

abbrev pub BUCKETS : Region
BUCKETS = record { at = 30003; size = bucket_count; past = λ x. 0 }

abbrev pub USES : Region
USES = record { at = 30764; size = most_tags; past = λ x. 0 }

abbrev pub SHARES : Region
SHARES = record { at = 31764; size = most_tags; past = λ x. 0 }

-- Of the first argument, or of the second where `second` says so.
abbrev pub use_at : Bool → ℕ
use_at second = cond second SHARES.at USES.at

abbrev pub more_at : Bool → ℕ
more_at second = cond second OTHER.at MORE.at

-- While the sheets of a reason are found (document 02, No. 9) other regions stand behind the front of the list, where the reason is. By place: the sheets,
-- rising. By sheet, and place 0 is none's: 1 where the sheet is filed. By hundred of sheets, from 1 to 100, from 101 to 200 and so on: 1 where its places by
-- sheet are in use.
abbrev pub hundred_size : ℕ
hundred_size = 100

abbrev pub hundred_count : ℕ
hundred_count = 100

abbrev pub SHEETS : Region
SHEETS = record { at = 19003; size = front_size; past = λ x. 0 }

abbrev pub FILED : Region
FILED = record { at = 21003; size = 1 + hundred_count * hundred_size; past = λ x. 0 }

abbrev pub HUNDREDS : Region
HUNDREDS = record { at = 31004; size = hundred_count; past = λ x. 0 }

-- A part of the table: from a place up to another, which is not in it.
pub record Part : Type 0 where
  pub from : ℕ
  pub upto : ℕ

abbrev pub from_to : ℕ → ℕ → Part
from_to a e = record { from = a; upto = e }

abbrev pub all_of : Region → Part
all_of r = from_to r.at (r.at + r.size)

-- The columns; the named places.
abbrev pub columns_part : Part
columns_part = from_to 0 PARENT.at

abbrev pub named_part : Part
named_part = from_to 0 named_numbers

-- All behind the columns; the links of the forest, the log of joins, and both; all behind these.
abbrev pub behind_columns : Part
behind_columns = from_to PARENT.at named_numbers

abbrev pub forest_part : Part
forest_part = from_to PARENT.at FIRST.at

abbrev pub log_part : Part
log_part = from_to FIRST.at LIST.at

abbrev pub joins_part : Part
joins_part = from_to PARENT.at LIST.at

abbrev pub behind_joins : Part
behind_joins = from_to LIST.at named_numbers

-- What a reason is looked for in; and of that the list and what its closure writes; all before the marks.
abbrev pub scratch : Part
scratch = from_to LIST.at SINCE.at

abbrev pub list_part : Part
list_part = from_to LIST.at MARKS.at

abbrev pub before_marks : Part
before_marks = from_to PARENT.at MARKS.at

-- The front of the list, before those that wait.
abbrev pub front_part : Part
front_part = from_to LIST.at (LIST.at + waiting_at)

-- What the closure of a list writes, and of that the chains.
abbrev pub closure_part : Part
closure_part = from_to LABEL.at MARKS.at

abbrev pub chain_part : Part
chain_part = from_to NEXT.at MARKS.at

-- Where applications are filed while all records are closed; and with the lists of uses.
abbrev pub file_part : Part
file_part = from_to CHAIN.at USES.at

abbrev pub index_part : Part
index_part = from_to CHAIN.at named_numbers

-- What taking out spare records writes: rings and weights; these and the labels; these and the trail; the lists of uses; these and what is in; all
-- of it; and all of it with the front of the list.
abbrev pub ring_part : Part
ring_part = from_to MEMBER.at LABEL.at

abbrev pub class_part : Part
class_part = from_to MEMBER.at TRAIL.at

abbrev pub link_part : Part
link_part = from_to MEMBER.at ENDS.at

abbrev pub uses_part : Part
uses_part = from_to ENDS.at QUEUE.at

abbrev pub wipe_part : Part
wipe_part = from_to ENDS.at (QUEUE.at + QUEUE.size)

abbrev pub add_part : Part
add_part = from_to MEMBER.at (QUEUE.at + QUEUE.size)

abbrev pub halve_part : Part
halve_part = from_to LIST.at (QUEUE.at + QUEUE.size)

-- And with all before it behind the columns.
abbrev pub before_halved : Part
before_halved = from_to PARENT.at (QUEUE.at + QUEUE.size)

-- What finding the sheets of a reason writes: what is filed; and that with the sheets.
abbrev pub filed_part : Part
filed_part = from_to FILED.at (HUNDREDS.at + HUNDREDS.size)

abbrev pub sheets_part : Part
sheets_part = from_to SHEETS.at (HUNDREDS.at + HUNDREDS.size)
