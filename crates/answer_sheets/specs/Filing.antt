-- What stands behind the field of a reason, as the table tells it. Document 02, No. 9.
-- Assumes nothing.
use Rattle.std.specs.Prelude.{ℕ, ◌+◌, ◌*◌, ◌≤◌, ◌≡◌, Bool, true, List, length}
use Rattle.job_field.specs.Reading.{head_in, matter_in}
use Rattle.table.specs.Map.{list_in, Within}
use Rattle.table.specs.Places.{scratch}
use Rattle.report.specs.Report.{Filed, laid}
use Rattle.sheets_walk.specs.Walk.{Listed}

-- The table's list has so many of the job's records, rising, and in edition 2 there is room for a sheet of each.
pub record Fileable (job w room : List ℕ) (sheeted : Bool) (count out : ℕ) : Type 0 where
  pub listed : Listed job w count
  pub edition : (head_in job).sheeted ≡ sheeted
  pub fits : sheeted ≡ true → out + 3 + 2 * count ≤ length room

-- What belongs behind the reason was laid into the room.
pub record FiledAt (job w room : List ℕ) (count out : ℕ) (w' room' : List ℕ) (end : ℕ) : Type 0 where
  pub field : List ℕ
  pub right : Filed (matter_in job) (list_in count w) field
  pub front : room' ≡ laid out field room
  pub reached : end ≡ out + length field
  pub kept : Within scratch w w'
