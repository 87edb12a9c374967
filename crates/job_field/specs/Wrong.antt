-- Document 02, No. 2 and 9: what a refusal by 11, 12 or 13, and one by 17, tells.
-- Assumes nothing.
use Rattle.std.specs.Prelude.{ℕ, ◌+◌, ◌*◌, ◌≤◌, ◌<◌, ◌≡◌, true, List, length}
use Rattle.meaning.specs.Following.{Rec}
use Rattle.meaning.specs.Limits.{most_sheet}
use Rattle.job_field.specs.Items.{Head, Item, noted, line, tags_of, tags_of_record}
use Rattle.job_field.specs.Reading.{number_at, behind_at, field_standing, header, item}
use Rattle.job_field.specs.Standing.{Below}

-- "A tag of N or more gets its own number, and its place is that number's first byte. If several are wrong the first is told. 11, 12, 13 for first, second and third
-- tag": the place told is that of a tag of N or more, and every tag before it in the same field is below N.
pub record Wrong (job : List ℕ) (n p : ℕ) : Type 0 where
  pub head : Head
  pub first : field_standing job 0 ≡ header head
  pub at : ℕ
  pub said : Item
  pub field : field_standing job at ≡ item said
  pub which : ℕ
  pub there : which < length (tags_of said)
  pub number : n ≡ 11 + which
  pub place : p ≡ at + 3 + 2 * which
  pub wrong : head.size ≤ number_at job p
  pub before : (k : ℕ) → k < which → number_at job (at + 3 + 2 * k) < head.size

-- "17 for a sheet above 9,999, after the tags, at the sheet's first byte": the place told is that of a sheet above 9,999 of a record of an edition 2 job, the last
-- number of its field, and every tag of that record is below N.
pub record Unfiled (job : List ℕ) (p : ℕ) : Type 0 where
  pub head : Head
  pub first : field_standing job 0 ≡ header head
  pub edition : head.sheeted ≡ true
  pub at : ℕ
  pub said : Rec
  pub field : field_standing job at ≡ item (noted (line said (number_at job p)))
  pub place : p + 2 ≡ behind_at job at
  pub wrong : most_sheet < number_at job p
  pub tags : Below head.size (tags_of_record said)
