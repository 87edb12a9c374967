-- The field of a broken pair, as the table tells it.
-- Assumes nothing.
use Rattle.std.specs.Prelude.{ℕ, ◌+◌, ◌≤◌, ◌<◌, ◌≡◌, List, ◌∷◌, ◌++◌, length}
use Rattle.job_field.specs.Items.{Head, Moment, Question, broken, room_for, records_of}
use Rattle.job_field.specs.Reading.{head_in, items_in, matter_in}
use Rattle.job_field.specs.Standing.{Job}
use Rattle.meaning.specs.Following.{Follows, UpTo}
use Rattle.table.specs.Map.{records_in, Within}
use Rattle.table.specs.Places.{scratch}
use Rattle.table.specs.Past.{Past}
use Rattle.report.specs.Report.{numbers, field, Filed, after_records, laid}
use Rattle.profile.specs.Rules.{Rules}

-- The tags of pair number k are equal by the records before the question, and there is room for its field.
pub record Broke (job w room : List ℕ) (H : Head) (len joins before out k s t : ℕ) : Type 0 where
  pub stands : Job job (head_in job) (items_in job)
  pub head : head_in job ≡ H
  pub records : records_in len w ≡ records_of (items_in job)
  pub early : before ≤ length (records_of (items_in job))
  pub past : Past H.size len w joins
  pub passed : before ≤ len
  pub from : s < H.size
  pub to : t < H.size
  pub number : k < 65536
  pub equal : Follows (UpTo (records_in len w) before) s t
  pub fits : out + room_for H (after_records before) broken ≤ length room

-- Its number and a reason by the rules of the profile, and what belongs behind that, were laid into the room.
pub record Breached (R : Rules) (job w room : List ℕ) (N len before out k s t : ℕ) (w' room' : List ℕ) (end : ℕ) : Type 0 where
  pub list : List ℕ
  pub reason : R.IsReason N (records_in len w) before s t list
  pub sheets : List ℕ
  pub filed : Filed (matter_in job) list sheets
  pub front : room' ≡ laid out (field 134 (numbers (k ∷ list)) ++ sheets) room
  pub reached : end ≡ out + length (field 134 (numbers (k ∷ list)) ++ sheets)
  pub kept : Within scratch w w'

-- A field that is right for the job at hand by the rules of the profile, at the moment with so many records and so many pairs before it, was laid into the room; the past
-- still stands.
pub record Replied (R : Rules) (job w room : List ℕ) (before differs out : ℕ) (q : Question) (w' room' : List ℕ) (end : ℕ) : Type 0 where
  pub field : List ℕ
  pub right : (b : Moment) → b.records ≡ before → b.differs ≡ differs → R.Answers (matter_in job) b q field
  pub front : room' ≡ laid out field room
  pub reached : end ≡ out + length field
  pub kept : Within scratch w w'
