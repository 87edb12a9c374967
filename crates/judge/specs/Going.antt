-- Going through the job's items with the report beside them.
-- Assumes nothing.
use Rattle.std.specs.Prelude.{ℕ, ◌+◌, ◌≤◌, ◌<◌, ◌≡◌, List, length, drop, Option, Some, None, Result, Ok, Err}
use Rattle.job_field.specs.Items.{Moment, start, Item, records_of, pairs_of}
use Rattle.job_field.specs.Reading.{head_in, items_in, matter_in}
use Rattle.job_field.specs.Standing.{Stands}
use Rattle.table.specs.Map.{Within}
use Rattle.table.specs.Places.{behind_joins}
use Rattle.pairs.specs.Breaking.{Guarded}
use Rattle.profile.specs.Rules.{Rules}
use Rattle.judge.specs.declared.Stand.{Stand}

-- The items that are left stand at the place in the job, and the pairs before them are kept; the fields before the place in the report are
-- right, so that what the bytes from there on are decides the whole, by the rules of the profile.
pub record Going (R : Rules) (job report w : List ℕ) (s : Stand) : Type 0 where
  pub left : List Item
  pub stands : Stands job (head_in job).size s.at left
  pub moment : Moment
  pub passed : moment.records ≡ s.before
  pub differed : moment.differs ≡ s.differs
  pub guarded : Guarded job w s.differs (pairs_of left)
  pub counted : s.before + length (records_of left) ≡ length (records_of (items_in job))
  pub within : s.place ≤ length report
  pub sound : R.Sound (matter_in job) moment left (drop s.place report) → R.Sound (matter_in job) start (items_in job) report
  pub fault : (p : ℕ) → R.FaultAt (matter_in job) moment left s.place (drop s.place report) p
      → R.FaultAt (matter_in job) start (items_in job) 0 report p

-- One item more: the judge goes on behind it, or has its answer.
pub data Turned (R : Rules) (job report w : List ℕ) (s : Stand) : Result (Option Stand) ℕ → Type 0 where
  on : {t : Stand} → s.at < t.at → Going R job report w t → Turned R job report w s (Ok (Some t))
  sound : R.Sound (matter_in job) start (items_in job) report → Turned R job report w s (Ok None)
  fault : {p : ℕ} → R.FaultAt (matter_in job) start (items_in job) 0 report p → Turned R job report w s (Err p)

pub record Advanced (R : Rules) (job report w w' : List ℕ) (s : Stand) (turn : Result (Option Stand) ℕ) : Type 0 where
  pub kept : Within behind_joins w w'
  pub turned : Turned R job report w' s turn
