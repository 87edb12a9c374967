-- Document 01, "The job and the report": the records of a job in the order they stand, as they stand in the record table.
-- Assumes nothing.
use Rattle.std.specs.Prelude.{ℕ, ◌≤◌, ◌<◌, ◌≡◌, List, length, get_or, drop}
use Rattle.meaning.specs.Following.{eq}
use Rattle.job_field.specs.Items.{Head, Item, accepted, records_of, sheets_of}
use Rattle.job_field.specs.Reading.{reading}
use Rattle.records.specs.declared.Record.{Record}
use Rattle.records.specs.Table.{blank, place_of}

-- The first n records of an accepted job stand in the first n places of the table t', and the rest is as it was in t.
pub record Filled (job : List ℕ) (n : ℕ) (t t' : List Record) : Type 0 where
  pub size : length t' ≡ length t
  pub rest : drop n t' ≡ drop n t
  pub holds : (H : Head) (items : List Item) → reading job ≡ accepted H items → n ≤ length (records_of items) → (k : ℕ) → k < n → get_or t' k blank ≡ place_of (get_or (records_of items) k (eq 0 0)) (get_or (sheets_of items) k 0)
