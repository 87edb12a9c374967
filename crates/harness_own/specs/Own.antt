-- Document 01, "What is lent, and each refusal", and document 02, No. 8, for a caller that holds no record table: it is as if 4,000 blank records had been lent.
-- Assumes nothing.
use Rattle.std.specs.Prelude.{ℕ, ◌≤◌, ◌≡◌, List, length}
use Rattle.records.specs.declared.Record.{Record}
use Rattle.records.specs.Table.{blank}
use Rattle.haltzurme_own.specs.Own.{filled}
use Rattle.harness.specs.Run.{HarnessRan}
use Rattle.harness.specs.Recheck.{HarnessRechecked}

-- A run with that table; what it leaves in it is of no concern. The lengths of what was lent are kept, and the report is inside the room.
pub record HarnessRanAlone (job room work : List ℕ) (n p l : ℕ) (room' work' : List ℕ) : Type 0 where
  pub records : List Record
  pub ran : HarnessRan job room (filled blank) work n p l room' records work'
  pub room_kept : length room' ≡ length room
  pub work_kept : length work' ≡ length work
  pub inside : l ≤ length room'

-- A recheck with that table.
pub record HarnessRecheckedAlone (job report work : List ℕ) (n p : ℕ) (work' : List ℕ) : Type 0 where
  pub records : List Record
  pub rechecked : HarnessRechecked job report (filled blank) work n p records work'
  pub work_kept : length work' ≡ length work
