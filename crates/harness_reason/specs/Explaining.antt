-- The promise of the whole: for two tags that are equal by the records before a question of a plain harness sheet, the list in the table is the harness reason; for two that
-- are not, the answer says so. Document 02, No. 8. Assumes nothing.
use Rattle.std.specs.Prelude.{ℕ, suc, ◌≤◌, ◌<◌, ◌≡◌, List, Option, Some, None}
use Rattle.meaning.specs.Following.{Rec, eq, Follows, UpTo}
use Rattle.table.specs.Map.{left_of, right_of, rec_at, list_in, records_in, Loaded, Within}
use Rattle.table.specs.Past.{Past}
use Rattle.table.specs.Places.{scratch}
use Rattle.harness_meaning.specs.Harness.{Harness}

-- Every record is an equation.
abbrev pub Plain : ℕ → List ℕ → Type 0
Plain len w = (k : ℕ) → k < len → rec_at w (suc k) ≡ eq (left_of w (suc k)) (right_of w (suc k))

-- Two tags that are equal by the records before the question, which are all equations.
pub record Equal (N len before s t : ℕ) (w : List ℕ) : Type 0 where
  pub loaded : Loaded N len w
  pub plain : Plain len w
  pub stands : before ≤ len
  pub s-tag : s < N
  pub t-tag : t < N
  pub follows : Follows (UpTo (records_in len w) before) s t

pub record Wanted (before s t : ℕ) (w : List ℕ) : Type 0 where
  pub tags : ℕ
  pub records : ℕ
  pub equal : Equal tags records before s t w

-- From w to w' the harness reason for s and t came to the front of the list; it has c numbers.
pub record Shortest (before s t : ℕ) (w w' : List ℕ) (c : ℕ) : Type 0 where
  pub kept : Within scratch w w'
  pub reason : (N len : ℕ) → Equal N len before s t w → Harness N (records_in len w) before s t (list_in c w')

-- What an answer says, with w the table as it is left: the first c numbers of the list are the harness reason, or the equality does not follow.
abbrev pub Says : ℕ → List Rec → ℕ → ℕ → ℕ → List ℕ → Option ℕ → Type 0
Says N rs before s t w (Some c) = Harness N rs before s t (list_in c w)
Says N rs before s t w None = Follows (UpTo rs before) s t → ⊥

-- From w to w' the question was answered: the past stays, so that the next may be asked.
pub record Explained (N len joins before s t : ℕ) (w w' : List ℕ) (answer : Option ℕ) : Type 0 where
  pub kept : Within scratch w w'
  pub past : Past N len w' joins
  pub says : Says N (records_in len w) before s t w' answer
