-- The promise of the closure of all records.
-- Assumes nothing.
use Rattle.std.specs.Prelude.{ℕ, ◌-◌, List}
use Rattle.meaning.specs.Following.{UpTo}
use Rattle.meaning.specs.Totals.{Classes, Idles}
use Rattle.table.specs.Map.{records_in, Within}
use Rattle.table.specs.Past.{Past}
use Rattle.table.specs.Places.{behind_columns}

-- From w to w' the records 1 to len of N tags were closed: what was written lies behind the columns, the joins are kept for every moment, and the numbers of classes
-- and of idle records over all records are as documents 01 and 02 define them.
pub record Closing (N len : ℕ) (w w' : List ℕ) (joins idle : ℕ) : Type 0 where
  pub kept : Within behind_columns w w'
  pub past : Past N len w' joins
  pub classes : Classes N (UpTo (records_in len w') len) (N - joins)
  pub idles : Idles (records_in len w') idle
