-- Document 01, "What is lent, and each refusal", for a caller that holds no record table: it is as if 4,000 records that are all alike had been lent.
-- Assumes nothing.
use Rattle.std.specs.Prelude.{ℕ, List, replicate}
use Rattle.meaning.specs.Limits.{named_places}
use Rattle.records.specs.declared.Record.{Record}
use Rattle.call_look.specs.Seen.{Seen}
use Rattle.call_intake.specs.Received.{Received}

-- The table that is lent: 4,000 places that hold the same record.
abbrev pub filled : Record → List Record
filled each = replicate named_places each

-- What is known once that table has had its part; what is left in it is of no concern.
pub record ReceivedOver (each : Record) (job work : List ℕ) (s : Seen) (work' : List ℕ) : Type 0 where
  pub records : List Record
  pub received : Received job (filled each) work s records work'
