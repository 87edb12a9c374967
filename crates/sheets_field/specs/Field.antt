-- Document 02, No. 9: "kind 8A after each 84 or 86: the distinct sheets of that reason, rising, without 0". The field that is written, and whether it stands at a
-- place.
-- Assumes nothing.
use Rattle.std.specs.Prelude.{ℕ, ◌+◌, ◌≤◌, ◌≡◌, List, Option, None, Some, length}
use Rattle.job_field.specs.Items.{sheets_of}
use Rattle.job_field.specs.Reading.{items_in}
use Rattle.table.specs.Map.{list_in, Within}
use Rattle.table.specs.Places.{scratch}
use Rattle.report.specs.Report.{numbers, field, laid}
use Rattle.report.specs.Sheets.{Sheets}
use Rattle.report_read.specs.Read.{Holds}

-- The 8A of some sheets.
abbrev pub sheets_bytes : List ℕ → List ℕ
sheets_bytes hs = field 138 (numbers hs)

-- The sheets of the records of the table's list.
abbrev pub SheetsOf : List ℕ → List ℕ → ℕ → List ℕ → Type 0
SheetsOf job w count hs = Sheets (sheets_of (items_in job)) (list_in count w) hs

-- From room to room' the 8A of the list's sheets was laid at a place, and it ends at `end`; of the work table only scratch changed.
pub record Laid (job w w' room room' : List ℕ) (count at end : ℕ) : Type 0 where
  pub sheets : List ℕ
  pub right : SheetsOf job w count sheets
  pub front : room' ≡ laid at (sheets_bytes sheets) room
  pub reached : end ≡ at + length (sheets_bytes sheets)
  pub few : length sheets ≤ count
  pub kept : Within scratch w w'

-- The 8A of the list's sheets stands at a place and ends at another, or none stands there.
abbrev pub Standing : List ℕ → List ℕ → List ℕ → ℕ → ℕ → Option ℕ → Type 0
Standing job w report count at (Some end) = (hs : List ℕ) × SheetsOf job w count hs × Holds report at (sheets_bytes hs) × (end ≡ at + length (sheets_bytes hs))
Standing job w report count at None = (hs : List ℕ) → SheetsOf job w count hs → Holds report at (sheets_bytes hs) → ⊥

pub record Seen (job w w' report : List ℕ) (count at : ℕ) (end : Option ℕ) : Type 0 where
  pub stands : Standing job w report count at end
  pub kept : Within scratch w w'
