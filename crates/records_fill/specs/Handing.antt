-- The way of an accepted job's records as a whole: from the job through the record table into the columns.
-- Assumes nothing.
use Rattle.std.specs.Prelude.{ℕ, ◌≤◌, ◌≡◌, ◌⊎◌, List, length, drop}
use Rattle.meaning.specs.Limits.{named_numbers, named_places}
use Rattle.job_field.specs.Items.{Head, Item, accepted, records_of}
use Rattle.job_field.specs.Reading.{reading}
use Rattle.records.specs.declared.Record.{Record}
use Rattle.table.specs.Map.{records_in, Within, Loaded}
use Rattle.table.specs.Places.{columns_part}

-- The job is accepted and has n records.
pub record Counts (job : List ℕ) (n : ℕ) : Type 0 where
  pub head : Head
  pub items : List Item
  pub reads : reading job ≡ accepted head items
  pub records : n ≡ length (records_of items)

-- The tables are as long as named, and all of the job's records are asked for, or none.
pub record Handable (job : List ℕ) (t : List Record) (w : List ℕ) (n : ℕ) : Type 0 where
  pub places : named_places ≤ length t
  pub numbers : named_numbers ≤ length w
  pub count : (n ≡ 0) ⊎ Counts job n

-- Nothing has changed but named places of the record table and the columns of the work table, and of an accepted job with n records the
-- columns hold the records, with tags below N.
pub record Handed (job : List ℕ) (t : List Record) (w : List ℕ) (n : ℕ) (t' : List Record) (w' : List ℕ) : Type 0 where
  pub size : length t' ≡ length t
  pub rest : drop named_places t' ≡ drop named_places t
  pub frame : Within columns_part w w'
  pub loaded : (H : Head) (items : List Item) → reading job ≡ accepted H items → n ≡ length (records_of items) → Loaded H.size n w'
  pub records : (H : Head) (items : List Item) → reading job ≡ accepted H items → n ≡ length (records_of items) → records_in n w' ≡ records_of items
