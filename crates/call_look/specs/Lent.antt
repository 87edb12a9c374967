-- Document 01, "What is lent, and each refusal": which lengths are not at fault, and what both tables hold in the end.
-- Assumes nothing.
use Rattle.std.specs.Prelude.{ℕ, ◌≤◌, List, length}
use Rattle.meaning.specs.Limits.{named_numbers, named_places}
use Rattle.job_field.specs.Reading.{longest}
use Rattle.records.specs.declared.Record.{Record}
use Rattle.records.specs.Table.{Blanked}
use Rattle.call_look.specs.Clear.{Cleared}

-- Neither the job nor a table is at fault by its length.
pub record Lent (job : List ℕ) (records : List Record) (work : List ℕ) : Type 0 where
  pub short : length job ≤ longest job
  pub places : named_places ≤ length records
  pub numbers : named_numbers ≤ length work

-- After any later answer than 1 and 2, the named places of both tables are zero and the rest is as it was.
pub record Emptied (records : List Record) (work : List ℕ) (records' : List Record) (work' : List ℕ) : Type 0 where
  pub blanked : Blanked records records'
  pub cleared : Cleared work work'
