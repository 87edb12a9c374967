-- The pair of a number, found in the job.
-- Assumes nothing.
use Rattle.std.specs.Prelude.{ℕ, ◌≤◌, ◌<◌, ◌≡◌, List, [], ◌∷◌, length}
use Rattle.job_field.specs.Items.{Pair, pairs_noted, noted, posed, pairs_of}
use Rattle.job_field.specs.Reading.{Field, bad, header, item, end, head_in, items_in}
use Rattle.job_field.specs.Standing.{Job}
use Rattle.report.specs.Broken.{pair_no}
use Rattle.pairs.specs.declared.Differing.{Differing}

-- The pairs of a field, and the first of some pairs.
abbrev pub pairs_at : Field → List Pair
pairs_at (bad n) = []
pairs_at (header M) = []
pairs_at (item (noted n)) = pairs_noted n
pairs_at (item (posed q)) = []
pairs_at end = []

abbrev pub first_in : List Pair → Pair
first_in [] = record { first = 0; second = 0 }
first_in (p ∷ ps) = p

-- A pair as the code holds it.
abbrev pub pair_of : Differing → Pair
pair_of p = record { first = p.s.0; second = p.t.0 }

-- The job is accepted, and has a pair of the number.
pub record Sought (job : List ℕ) (number : ℕ) : Type 0 where
  pub stands : Job job (head_in job) (items_in job)
  pub some : 1 ≤ number
  pub most : number ≤ length (pairs_of (items_in job))

-- It is this pair, and its tags are below N.
pub record Found (job : List ℕ) (number : ℕ) (p : Differing) : Type 0 where
  pub is : pair_no (pairs_of (items_in job)) number ≡ pair_of p
  pub from : p.s.0 < (head_in job).size
  pub to : p.t.0 < (head_in job).size
