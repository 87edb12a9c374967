-- What the table keeps of the pairs that must differ, and what a scan of them finds. Document 02, No. 1.
-- Assumes nothing.
use Rattle.std.specs.Prelude.{ℕ, ◌+◌, ◌≤◌, ◌<◌, ◌≡◌, List, ◌++◌, length, set}
use Rattle.meaning.specs.Following.{Rec}
use Rattle.meaning.specs.Limits.{most_differs}
use Rattle.job_field.specs.Items.{Head, Pair, Note, pairs_noted, tags_of_note}
use Rattle.job_field.specs.Standing.{Below}
use Rattle.table.specs.Map.{records_in, since_of, Within}
use Rattle.table.specs.Places.{SINCE, all_of}
use Rattle.table.specs.Past.{Past}
use Rattle.report.specs.Broken.{pair_no}
use Rattle.pairs.specs.Came.{Came}

-- What is kept of each pair is the first k such that its tags are equal by records 1 to k, or a number above all records.
pub record Marked (rs : List Rec) (ps : List Pair) (w : List ℕ) : Type 0 where
  pub each : (j : ℕ) → j < length ps → Came rs (length rs) (pair_no ps (j + 1)).first (pair_no ps (j + 1)).second (since_of w j)

-- From w to w' the number of the pair s, t was kept at place i.
pub record Stored (w w' : List ℕ) (len i s t : ℕ) : Type 0 where
  pub number : ℕ
  pub came : Came (records_in len w) len s t number
  pub stored : w' ≡ set w (SINCE.at + i) number

-- A note is met behind i pairs: the table holds the past of all records, the note's tags are below N, and there is room for its pair.
pub record Marking (w : List ℕ) (H : Head) (len joins i : ℕ) (n : Note) : Type 0 where
  pub past : Past H.size len w joins
  pub units : H.units ≤ H.size
  pub tags : Below H.size (tags_of_note n)
  pub room : i + length (pairs_noted n) ≤ most_differs

-- The note was passed: its pair is marked with those before it, and nothing but the numbers of pairs has changed.
pub record Noted (w w' : List ℕ) (len i : ℕ) (n : Note) : Type 0 where
  pub kept : Within (all_of SINCE) w w'
  pub marks : (ps : List Pair) → length ps ≡ i → Marked (records_in len w) ps w → Marked (records_in len w) (ps ++ pairs_noted n) w'

-- Number k is that of the first of so many pairs whose number is not above R; or there is none, and k is 0.
pub data Scanned (w : List ℕ) (count R : ℕ) : ℕ → Type 0 where
  hit : {j k : ℕ} → k ≡ j + 1 → j < count → since_of w j ≤ R → ((i : ℕ) → i < j → R < since_of w i) → Scanned w count R k
  none : {k : ℕ} → k ≡ 0 → ((i : ℕ) → i < count → R < since_of w i) → Scanned w count R k
