-- The promise of the whole: for two tags that are equal by the records before a question, the list in the table is a reason; for two
-- that are not, the answer says so. Document 01, "Reasons", and kinds 84 and 85 of its report.
-- Assumes nothing.
use Rattle.std.specs.Prelude.{ℕ, ◌≤◌, ◌<◌, ◌≢◌, List, Option, Some, None}
use Rattle.meaning.specs.Following.{Rec, Follows, UpTo}
use Rattle.meaning.specs.Reasons.{Reason}
use Rattle.table.specs.Map.{when_of, list_in, records_in, Within}
use Rattle.table.specs.Past.{Past}
use Rattle.table.specs.Places.{scratch}
use Rattle.moment.specs.Meeting.{Met}

-- The table holds the past of records 1 to len on N tags, and a question about s and t stands after the first `before` of them.
pub record Question (N len joins before s t : ℕ) (w : List ℕ) : Type 0 where
  pub past : Past N len w joins
  pub stands : before ≤ len
  pub s-tag : s < N
  pub t-tag : t < N

-- What an answer says, with w the table as it is left: the first c numbers of the list are a reason, or the equality does not follow.
-- So a tag and itself are answered by the empty list, since that is their one reason.
abbrev pub Says : ℕ → List Rec → ℕ → ℕ → ℕ → List ℕ → Option ℕ → Type 0
Says N rs before s t w (Some c) = Reason N rs before s t (list_in c w)
Says N rs before s t w None = Follows (UpTo rs before) s t → ⊥

-- From w to w' the question was answered: the past stays, so that the next may be asked.
pub record Explained (N len joins before s t : ℕ) (w w' : List ℕ) (answer : Option ℕ) : Type 0 where
  pub kept : Within scratch w w'
  pub past : Past N len w' joins
  pub says : Says N (records_in len w) before s t w' answer

-- Two tags of which b is the newest join, and a table that goes from w to w' and then has a reason for them: its last record is that at
-- which the join was made.
pub record Joining (N len joins s t b : ℕ) (w : List ℕ) : Type 0 where
  pub past : Past N len w joins
  pub s-tag : s < N
  pub t-tag : t < N
  pub two : s ≢ t
  pub join : b < joins
  pub met : Met w s t b

pub record Reasoned (N len s t b : ℕ) (w w' : List ℕ) (c : ℕ) : Type 0 where
  pub kept : Within scratch w w'
  pub reason : Reason N (records_in len w) (when_of w b) s t (list_in c w')
