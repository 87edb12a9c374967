-- A question 06 at its moment. Document 02, No. 1.
-- Assumes nothing.
use Rattle.std.specs.Prelude.{ℕ, ◌≤◌, ◌≡◌, List, ◌++◌, length}
use Rattle.job_field.specs.Items.{Head, Pair, records_of, pairs_of}
use Rattle.job_field.specs.Reading.{head_in, items_in}
use Rattle.job_field.specs.Standing.{Job}
use Rattle.table.specs.Map.{records_in}
use Rattle.table.specs.Past.{Past}
use Rattle.pairs.specs.Marks.{Marked}

-- The job is accepted, the table holds the past of its records, and of the pairs before the question it keeps when each became equal.
pub record Breaking (job w : List ℕ) (H : Head) (len joins before differs : ℕ) : Type 0 where
  pub stands : Job job (head_in job) (items_in job)
  pub head : head_in job ≡ H
  pub records : records_in len w ≡ records_of (items_in job)
  pub past : Past H.size len w joins
  pub passed : before ≤ len
  pub pairs : List Pair
  pub more : List Pair
  pub all : pairs_of (items_in job) ≡ pairs ++ more
  pub counted : length pairs ≡ differs
  pub marks : Marked (records_of (items_in job)) pairs w

-- Going through the job: the pairs that were passed are so many, those ahead follow them, and the table keeps when each of them became equal.
pub record Guarded (job w : List ℕ) (differs : ℕ) (ahead : List Pair) : Type 0 where
  pub pairs : List Pair
  pub all : pairs_of (items_in job) ≡ pairs ++ ahead
  pub counted : length pairs ≡ differs
  pub marks : Marked (records_of (items_in job)) pairs w
