-- What an explain needs, and what answering it leaves. Document 01, "The job and the report"; document 02, No. 9.
-- Assumes nothing.
use Rattle.std.specs.Prelude.{ℕ, ◌+◌, ◌≡◌, List, length}
use Rattle.job_field.specs.Items.{Head, Moment, explain, records_of}
use Rattle.job_field.specs.Reading.{head_in, items_in, matter_in}
use Rattle.job_field.specs.Standing.{Job}
use Rattle.table.specs.Map.{records_in, Within}
use Rattle.table.specs.Places.{scratch}
use Rattle.report.specs.Report.{laid}
use Rattle.profile.specs.Rules.{Rules}
use Rattle.answer_ask.specs.Facing.{Facing}

-- The job is accepted, the table holds its records, and the question can be faced.
pub record Explaining (job w room : List ℕ) (H : Head) (len joins before out s t : ℕ) : Type 0 where
  pub stands : Job job (head_in job) (items_in job)
  pub head : head_in job ≡ H
  pub few : len ≡ length (records_of (items_in job))
  pub records : records_in len w ≡ records_of (items_in job)
  pub facing : Facing w room H len joins before out (explain s t)

-- The right answer by the rules of the profile, at the moment with so many records before it, was laid into the room at `out`; the past still stands.
pub record Explained (R : Rules) (job w room : List ℕ) (before out s t : ℕ) (w' room' : List ℕ) (end : ℕ) : Type 0 where
  pub field : List ℕ
  pub right : (b : Moment) → b.records ≡ before → R.Answers (matter_in job) b (explain s t) field
  pub front : room' ≡ laid out field room
  pub reached : end ≡ out + length field
  pub kept : Within scratch w w'
