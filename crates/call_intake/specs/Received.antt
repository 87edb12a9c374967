-- Document 01, "What is lent, and each refusal": what is known, and what both tables hold, once a call has looked at what it was lent and the job's
-- records have gone through the record table into the columns of the work table.
-- Assumes nothing.
use Rattle.std.specs.Prelude.{ℕ, ◌≡◌, true, false, List, length}
use Rattle.job_field.specs.Items.{Head, Item, accepted, records_of}
use Rattle.job_field.specs.Reading.{reading}
use Rattle.records.specs.declared.Record.{Record}
use Rattle.records.specs.Table.{Blanked}
use Rattle.table.specs.Map.{records_in, Within, Loaded}
use Rattle.table.specs.Places.{columns_part}
use Rattle.call_look.specs.Seen.{Seen}
use Rattle.call_look.specs.Look.{Looked}

-- s is what was seen; the tables t and w became t' and w'.
pub record Received (job : List ℕ) (t : List Record) (w : List ℕ) (s : Seen) (t' : List Record) (w' : List ℕ) : Type 0 where
  pub looked : Looked job (length t) (length w) s
  -- after 1 and 2 nothing lent has changed
  pub kept : s.lent ≡ false → (t' ≡ t) × (w' ≡ w)
  -- after any later answer the named places of the record table are zero
  pub blanked : s.lent ≡ true → Blanked t t'
  -- of the work table nothing but the columns has changed, and they hold the records of an accepted job, with tags below N
  pub frame : Within columns_part w w'
  pub loaded : s.ready ≡ true → Loaded s.size s.records w'
  pub columns : (H : Head) (items : List Item) → reading job ≡ accepted H items → s.ready ≡ true → records_in s.records w' ≡ records_of items
