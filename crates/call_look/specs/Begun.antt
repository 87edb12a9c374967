-- What the rest of a call begins with, once the record table has had its part: what was seen of the job and of the lengths, and where the call may
-- go on the job's records in the columns of the work table, with tags below N.
-- Assumes nothing.
use Rattle.std.specs.Prelude.{ℕ, ◌≡◌, true, List, length}
use Rattle.job_field.specs.Items.{Head, Item, accepted, records_of}
use Rattle.job_field.specs.Reading.{reading}
use Rattle.table.specs.Map.{records_in, Loaded}
use Rattle.call_look.specs.Seen.{Seen}
use Rattle.call_look.specs.Look.{Looked}

pub record Begun (job work : List ℕ) (s : Seen) : Type 0 where
  pub places : ℕ
  pub looked : Looked job places (length work) s
  pub loaded : s.ready ≡ true → Loaded s.size s.records work
  pub columns : (H : Head) (items : List Item) → reading job ≡ accepted H items → s.ready ≡ true → records_in s.records work ≡ records_of items
