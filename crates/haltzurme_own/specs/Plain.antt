-- Document 01, "What is lent, and each refusal", for a caller that holds no record table: it is as if 4,000 records that are all alike had been
-- lent, and blank ones where the caller names none.
-- Assumes nothing.
use Rattle.std.specs.Prelude.{ℕ, ◌≤◌, ◌≡◌, List, length}
use Rattle.records.specs.declared.Record.{Record}
use Rattle.records.specs.Table.{blank}
use Rattle.haltzurme_own.specs.Own.{filled}
use Rattle.haltzurme.specs.Run.{Ran}
use Rattle.haltzurme.specs.Recheck.{Rechecked}

-- A run with that table; what it leaves in it is of no concern. The lengths of what was lent are kept, and the report is inside the room.
pub record RanOver (each : Record) (job room work : List ℕ) (n p l : ℕ) (room' work' : List ℕ) : Type 0 where
  pub records : List Record
  pub ran : Ran job room (filled each) work n p l room' records work'
  pub room_kept : length room' ≡ length room
  pub work_kept : length work' ≡ length work
  pub inside : l ≤ length room'

-- A recheck with that table.
pub record RecheckedOver (each : Record) (job report work : List ℕ) (n p : ℕ) (work' : List ℕ) : Type 0 where
  pub records : List Record
  pub rechecked : Rechecked job report (filled each) work n p records work'
  pub work_kept : length work' ≡ length work

-- Both where the places are zero.
abbrev pub RanAlone : List ℕ → List ℕ → List ℕ → ℕ → ℕ → ℕ → List ℕ → List ℕ → Type 0
RanAlone = RanOver blank

abbrev pub RecheckedAlone : List ℕ → List ℕ → List ℕ → ℕ → ℕ → List ℕ → Type 0
RecheckedAlone = RecheckedOver blank
