-- What reading a reason leaves in the table's list.
-- Assumes nothing.
use Rattle.std.specs.Prelude.{ℕ, ◌+◌, ◌≡◌, List, set}
use Rattle.table.specs.Map.{list_in, Within}
use Rattle.table.specs.Places.{LIST, all_of}
use Rattle.report.specs.Report.{two, numbers}
use Rattle.report_read.specs.Read.{Holds}

-- From w to w' place i of the list got the number that stands at a place of the report.
pub record Placed (report : List ℕ) (at i : ℕ) (w w' : List ℕ) : Type 0 where
  pub number : ℕ
  pub stands : Holds report at (two number)
  pub stored : w' ≡ set w (LIST.at + i) number

-- From w to w' the list got the numbers that stand at the place, and nothing else changed.
pub record ListRead (report : List ℕ) (at count : ℕ) (w w' : List ℕ) : Type 0 where
  pub kept : Within (all_of LIST) w w'
  pub read : Holds report at (numbers (list_in count w'))
