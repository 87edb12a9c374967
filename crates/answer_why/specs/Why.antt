-- A why: the leaders of all tags where the table holds them, and whether the right field stands at a place of the report. Document 02, No. 7.
-- Assumes nothing.
use Rattle.std.specs.Prelude.{ℕ, ◌≤◌, ◌<◌, List, Result}
use Rattle.job_field.specs.Items.{why}
use Rattle.meaning.specs.Limits.{most_tags}
use Rattle.table.specs.Map.{records_in, label_of, Within}
use Rattle.table.specs.Places.{scratch, Large}
use Rattle.report.specs.Report.{Answers, tabled, after_records}
use Rattle.moment.specs.declared.Question.{Question}
use Rattle.moment.specs.Posed.{head_asked}
use Rattle.answer_ask.specs.Right.{RightAt}

-- The first n tags have labels, so that their leaders can be read.
pub record Labelled (w : List ℕ) (n : ℕ) : Type 0 where
  pub long : Large w
  pub few : n ≤ most_tags
  pub low : (x : ℕ) → x < n → label_of w x < most_tags

-- The right fields for a why, by the records that the table holds.
abbrev pub WhyAnswer : List ℕ → Question → List ℕ → Type 0
WhyAnswer w q = Answers (tabled (head_asked q) (records_in q.len w)) (after_records q.before) (why q.s.0 q.t.0)

-- A why was looked at.
pub record Doubted (w w' report : List ℕ) (at : ℕ) (q : Question) (answer : Result ℕ ℕ) : Type 0 where
  pub kept : Within scratch w w'
  pub right : RightAt (WhyAnswer w q) report at answer
