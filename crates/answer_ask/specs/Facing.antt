-- What a question needs, and what answering it leaves. Document 01, "The job and the report".
-- Assumes nothing.
use Rattle.std.specs.Prelude.{ℕ, ◌+◌, ◌≤◌, ◌≡◌, List, length}
use Rattle.job_field.specs.Items.{Head, Matter, Moment, Question, room_for, tags_of_question}
use Rattle.job_field.specs.Standing.{Below}
use Rattle.table.specs.Map.{records_in, Within}
use Rattle.table.specs.Past.{Past}
use Rattle.table.specs.Places.{scratch}
use Rattle.report.specs.Report.{Answers, Known, after_records, laid}

-- A question is met after `before` records: the past stands, its tags are below N, and there is room for its field.
pub record Facing (w room : List ℕ) (H : Head) (len joins before out : ℕ) (q : Question) : Type 0 where
  pub past : Past H.size len w joins
  pub units : H.units ≤ H.size
  pub passed : before ≤ len
  pub tags : Below H.size (tags_of_question q)
  pub fits : out + room_for H (after_records before) q ≤ length room

-- A field that is right for the question, whatever else there is to the job, was laid into the room at `out`; the past still stands.
pub record Answered (w room : List ℕ) (H : Head) (len before out : ℕ) (q : Question) (w' room' : List ℕ) (end : ℕ) : Type 0 where
  pub field : List ℕ
  pub right : (M : Matter) (b : Moment) → Known M b H (records_in len w) before → Answers M b q field
  pub front : room' ≡ laid out field room
  pub reached : end ≡ out + length field
  pub kept : Within scratch w w'
