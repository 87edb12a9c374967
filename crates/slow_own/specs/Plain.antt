-- Document 02, No. 12, for a caller that holds no record table: it is as if 4,000 records that are all alike had been lent, and blank ones where the caller names none.
-- Assumes nothing.
use Rattle.std.specs.Prelude.{ℕ, ◌≡◌, Bool, List, length}
use Rattle.records.specs.declared.Record.{Record}
use Rattle.records.specs.Table.{blank}
use Rattle.haltzurme_own.specs.Own.{filled}
use Rattle.slow_rest.specs.Counted.{Counted}

-- What the call leaves in that table is of no concern. The lengths of what was lent are kept.
pub record CountedOver (each : Record) (job room work : List ℕ) (limit : ℕ) (watch : Bool) (n p c : ℕ) (room' work' : List ℕ) : Type 0 where
  pub records : List Record
  pub counted : Counted job room (filled each) work limit watch n p c room' records work'
  pub room_kept : length room' ≡ length room
  pub work_kept : length work' ≡ length work

-- The same where the places are zero.
abbrev pub CountedAlone : List ℕ → List ℕ → List ℕ → ℕ → Bool → ℕ → ℕ → ℕ → List ℕ → List ℕ → Type 0
CountedAlone = CountedOver blank
