-- The work table as the layers above see it: each named region is a function from its own numbers, and the records, the
-- list and the joins that the table holds are read off these functions. The map itself is drawn in src/map.rt.
-- Assumes nothing.
use Rattle.std.specs.Prelude.{ℕ, zero, suc, ◌+◌, ◌-◌, ◌≤◌, ◌<◌, ◌≡◌, ◌⊎◌, Bool, cond, List, [], ◌∷◌, ◌++◌, eqb, leb, ltb, length, get_or}
use Rattle.meaning.specs.Following.{Rec, eq, app}
use Rattle.meaning.specs.Joins.{Join, by, cong}
use Rattle.meaning.proofs.Reference.{Small}
use Rattle.meaning.specs.Limits.{most_records, most_tags}
use Rattle.table.specs.Places.{AGE, BUCKETS, CHAIN, EQUATION, FIRST, FRONT, HEADS, LABEL, LEFT, LIST, Large, MARKS, MEMBER, NEXT, PARENT, Part, QUEUE, RESULT, RIGHT, Region, SAVED, SECOND, TRAIL, WAITS, WHEN, before_at, column_size, end_at, front_size, more_at, plain, use_at, SINCE, SHEETS, FILED, HUNDREDS}

-- A region as a function from its own numbers.
unfoldable pub seen : Region → List ℕ → ℕ → ℕ
seen r w x = cond (ltb x r.size) (get_or w (r.at + x) 0) (r.past x)

-- By record number: the tags of the record. A result of 65,535, which is no tag, marks an equation.
abbrev pub left_of : List ℕ → ℕ → ℕ
left_of w = seen LEFT w

abbrev pub right_of : List ℕ → ℕ → ℕ
right_of w = seen RIGHT w

abbrev pub result_of : List ℕ → ℕ → ℕ
result_of w = seen RESULT w

-- By tag: the tag it was linked under, and the age of the join that did so (1,000 where it leads its class).
abbrev pub parent_of : List ℕ → ℕ → ℕ
parent_of w = seen PARENT w

abbrev pub age_of : List ℕ → ℕ → ℕ
age_of w = seen AGE w

-- By age: the join's first record, its second (0 for the join of an equation), and the record at which it was made.
abbrev pub first_of : List ℕ → ℕ → ℕ
first_of w = seen FIRST w

abbrev pub second_of : List ℕ → ℕ → ℕ
second_of w = seen SECOND w

abbrev pub when_of : List ℕ → ℕ → ℕ
when_of w = seen WHEN w

-- By place in the list: a record number.
abbrev pub list_of : List ℕ → ℕ → ℕ
list_of w = seen LIST w

-- Scratch of the closure. By tag: the label. By place in the list: one more than the next place of the chain, or 0. By bucket:
-- one more than the first place of the chain, or 0.
abbrev pub label_of : List ℕ → ℕ → ℕ
label_of w = seen LABEL w

abbrev pub next_of : List ℕ → ℕ → ℕ
next_of w = seen NEXT w

abbrev pub head_of : List ℕ → ℕ → ℕ
head_of w = seen HEADS w

-- By age: 1 where the join was taken into a reason.
abbrev pub mark_of : List ℕ → ℕ → ℕ
mark_of w = seen MARKS w

-- By tag: a label that was saved.
abbrev pub saved_of : List ℕ → ℕ → ℕ
saved_of w = seen SAVED w

-- By place of a pair that must differ: the number that is kept for it.
abbrev pub since_of : List ℕ → ℕ → ℕ
since_of w = seen SINCE w

-- While spare records are taken out. By place: the record number, or 0 where it was left out. By tag: the next tag of its class. By join: the label that went.
abbrev pub place_of : List ℕ → ℕ → ℕ
place_of w = seen FRONT w

abbrev pub member_of : List ℕ → ℕ → ℕ
member_of w = seen MEMBER w

abbrev pub trail_of : List ℕ → ℕ → ℕ
trail_of w = seen TRAIL w

-- By tag: one more than the last place whose record has it for its first argument (for its second, where `second` says so), or 0; by place: the same of
-- the places before it, for the same tag.
abbrev pub end_of : Bool → List ℕ → ℕ → ℕ
end_of second w = seen (plain (end_at second) most_tags) w

abbrev pub before_of : Bool → List ℕ → ℕ → ℕ
before_of second w = seen (plain (before_at second) front_size) w

-- By place: 0 where it is not in, 1 where it is; 2 and more where it is and waits, and then two more than the link to the next that does.
abbrev pub queue_of : List ℕ → ℕ → ℕ
queue_of w = seen QUEUE w

-- While all records are closed, from the list on. By tag: one more than the last place whose record has it for its first argument (for its second, where `second` says so), or 0; by place:
-- the same of the places before it, for the same tag.
abbrev pub use_of : Bool → List ℕ → ℕ → ℕ
use_of second w = seen (plain (use_at second) most_tags) w

abbrev pub more_of : Bool → List ℕ → ℕ → ℕ
more_of second w = seen (plain (more_at second) most_records) w

-- By place: up to 4,001, one more than the link of its chain; above, 4,002 more than the link of the list of those that wait. A place that waits stands in no chain.
abbrev pub state_of : List ℕ → ℕ → ℕ
state_of w = seen CHAIN w

abbrev pub chain_in : ℕ → ℕ
chain_in v = cond (leb v column_size) v 0

abbrev pub chain_of : List ℕ → ℕ → ℕ
chain_of w r = chain_in (state_of w r)

abbrev pub wait_of : List ℕ → ℕ → ℕ
wait_of w r = state_of w r - WAITS

-- By bucket: one more than the first place of the chain, or 0.
abbrev pub bucket_of : List ℕ → ℕ → ℕ
bucket_of w = seen BUCKETS w

-- While the sheets of a reason are found. By place: a sheet. By sheet: 1 where it is filed. By hundred of sheets: 1 where its places by sheet are in use.
abbrev pub sheet_of : List ℕ → ℕ → ℕ
sheet_of w = seen SHEETS w

abbrev pub filed_of : List ℕ → ℕ → ℕ
filed_of w = seen FILED w

abbrev pub hundred_of : List ℕ → ℕ → ℕ
hundred_of w = seen HUNDREDS w

-- The first n values of f, in order.
abbrev pub gather : {A : Type 0} → (ℕ → A) → ℕ → List A
gather f zero = []
gather f (suc n) = gather f n ++ (f n ∷ [])

-- The record of number k, records 1 to n, and the first n numbers of the list.
abbrev pub rec_at : List ℕ → ℕ → Rec
rec_at w k = cond (eqb (result_of w k) EQUATION) (eq (left_of w k) (right_of w k)) (app (left_of w k) (right_of w k) (result_of w k))

abbrev pub records_in : ℕ → List ℕ → List Rec
records_in n w = gather (λ k. rec_at w (suc k)) n

abbrev pub list_in : ℕ → List ℕ → List ℕ
list_in n w = gather (list_of w) n

-- The first n of the sheets.
abbrev pub sheets_in : ℕ → List ℕ → List ℕ
sheets_in n w = gather (sheet_of w) n

-- The join of age a: of the two tags of an equation, or of the results of two applications.
abbrev pub join_by : List ℕ → ℕ → ℕ → Join
join_by w k k' = cond (eqb k' 0) (record { u = left_of w k; v = right_of w k; why = by k }) (record { u = result_of w k; v = result_of w k'; why = cong k k' })

abbrev pub join_at : List ℕ → ℕ → Join
join_at w a = join_by w (first_of w a) (second_of w a)

-- The table holds N tags' records 1 to len in its columns.
pub record Loaded (N len : ℕ) (w : List ℕ) : Type 0 where
  pub long : Large w
  pub some : 1 ≤ N
  pub few : N ≤ most_tags
  pub most : len ≤ most_records
  pub small : (k : ℕ) → k < len → Small N (rec_at w (suc k))

-- From w to w' nothing changed but what stands in a part.
pub record Within (p : Part) (w w' : List ℕ) : Type 0 where
  pub size : length w' ≡ length w
  pub same : (i : ℕ) → (i < p.from) ⊎ (p.upto ≤ i) → get_or w' i 0 ≡ get_or w i 0
