-- The sheets of a list of records, found in the job: the list rises, so that one walk over the job meets its records one after the other. Document 02, No. 9.
-- Assumes nothing.
use Rattle.std.specs.Prelude.{ℕ, suc, ◌+◌, ◌-◌, ◌≤◌, ◌<◌, ◌≡◌, ◌↔◌, false, T, length, get_or}
use mathlib.Core.List.{List, [], ◌∷◌, Memᴰ}
use Rattle.meaning.specs.Limits.{most_records, most_sheet}
use Rattle.meaning.specs.Reasons.{Above}
use Rattle.job_field.specs.Items.{sheets_in, noted, posed, records_of, sheets_of}
use Rattle.job_field.specs.Reading.{Field, bad, header, item, end, head_in, items_in}
use Rattle.job_field.specs.Standing.{Job}
use Rattle.table.specs.Map as map
use Rattle.table.specs.Map.{gather, list_of, list_in, Within}
use Rattle.table.specs.Places.{Large, filed_part, sheets_part, most_waiting}
use Rattle.sheets_find.specs.Filing.{is_filed, top_sheet, Added}

-- The sheets of a field, one for each record that it stands for, and the first of some sheets.
abbrev pub sheets_at : Field → List ℕ
sheets_at (bad n) = []
sheets_at (header M) = []
sheets_at (item (noted n)) = sheets_in n
sheets_at (item (posed q)) = []
sheets_at end = []

abbrev pub first_sheet : List ℕ → ℕ
first_sheet [] = 0
first_sheet (h ∷ hs) = h

-- The sheets of the first n records of the table's list, in the order of the list. A record's number is counted from 1.
abbrev pub listed_sheets : List ℕ → List ℕ → ℕ → List ℕ
listed_sheets all w n = gather (λ j. get_or all (list_of w j - 1) 0) n

-- The job is accepted, and the table's list has so many of its records, rising.
pub record Listed (job w : List ℕ) (count : ℕ) : Type 0 where
  pub stands : Job job (head_in job) (items_in job)
  pub long : Large w
  pub few : count ≤ most_waiting
  pub rising : Above 0 (list_in count w)
  pub there : (k : ℕ) → Memᴰ k (list_in count w) → k ≤ length (records_of (items_in job))

-- A field is met behind so many records, and the record at a place of the list is not before it.
pub record Meeting (f : Field) (w : List ℕ) (passed i : ℕ) : Type 0 where
  pub long : Large w
  pub few : passed ≤ most_records
  pub place : i < most_records
  pub low : first_sheet (sheets_at f) ≤ most_sheet

-- Either the record at place i of the list stands further on, or the field is its own and the sheet was filed: then the next place of the list is due.
pub data Turn (f : Field) (w : List ℕ) (passed i : ℕ) : List ℕ → ℕ → Type 0 where
  further : passed + length (sheets_at f) < list_of w i → Turn f w passed i w i
  here : {w' : List ℕ} → list_of w i ≤ passed + length (sheets_at f) → Added w w' (first_sheet (sheets_at f)) → Turn f w passed i w' (suc i)

-- From w, where no sheet is filed, to w' the sheets of the list's records were filed, and no others. None is above 9,999.
pub record Gathered (job w w' : List ℕ) (count : ℕ) : Type 0 where
  pub kept : Within filed_part w w'
  pub low : (h : ℕ) → Memᴰ h (listed_sheets (sheets_of (items_in job)) w count) → h ≤ most_sheet
  pub same : (h : ℕ) → 1 ≤ h → h ≤ top_sheet → T (is_filed w' h) ↔ Memᴰ h (listed_sheets (sheets_of (items_in job)) w count)

-- No sheet is filed.
pub record Clear (w : List ℕ) : Type 0 where
  pub none : (h : ℕ) → 1 ≤ h → h ≤ top_sheet → is_filed w h ≡ false

-- "Distinct, rising, without 0": the numbers rise from above 0, each is of the list, and each of the list that is not 0 is among them.
pub record Distinct (S hs : List ℕ) : Type 0 where
  pub rising : Above 0 hs
  pub each : (h : ℕ) → Memᴰ h hs → Memᴰ h S
  pub every : (h : ℕ) → Memᴰ h S → 0 < h → Memᴰ h hs

-- From w to w' the table got the distinct sheets of the list's records, c of them; the list is as it was.
pub record Found (job w w' : List ℕ) (count c : ℕ) : Type 0 where
  pub kept : Within sheets_part w w'
  pub right : Distinct (listed_sheets (sheets_of (items_in job)) w count) (map.sheets_in c w')
  pub few : c ≤ count
