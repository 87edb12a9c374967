-- What stands in parts of the table: the labels, as they are read and as they were written.
-- Assumes nothing.
use Rattle.std.specs.Prelude.{ℕ, suc, ◌+◌, ◌*◌, ◌≤◌, ◌<◌, ◌≡◌, List, length, get_or}
use Rattle.meaning.specs.Labels.{into}
use Rattle.meaning.specs.Limits.{most_records, most_tags}
use Rattle.table.specs.Map.{left_of, right_of, label_of, Within}
use Rattle.table.specs.Places.{LABEL, Large, all_of}

-- What is no tag of the job is its own label.
abbrev pub Own : ℕ → (ℕ → ℕ) → Type 0
Own N f = (x : ℕ) → N ≤ x → f x ≡ x

-- Both argument labels of a record as one number; and where these can be read.
abbrev pub key_in : List ℕ → ℕ → ℕ
key_in w k = label_of w (left_of w k) * 65536 + label_of w (right_of w k)

pub record Readable (w : List ℕ) (k : ℕ) : Type 0 where
  pub long : Large w
  pub most : k ≤ most_records
  pub left : left_of w k < most_tags
  pub right : right_of w k < most_tags

-- The key of the record at a place; and a chain that can be followed from a link: it leads down, and the records of its places can be read.
abbrev pub place_key : List ℕ → ℕ → ℕ
place_key w j = key_in w (suc j)

pub record Followed (w : List ℕ) (leads : ℕ → ℕ) (from : ℕ) : Type 0 where
  pub falls : (r : ℕ) → leads r ≤ r
  pub readable : (j : ℕ) → j < from → Readable w (suc j)

-- Parts that were written: the label hi became lo; each tag is its own label.
pub record Relabelled (w w' : List ℕ) (lo hi : ℕ) : Type 0 where
  pub frame : Within (all_of LABEL) w w'
  pub labels : label_of w' ≡ (λ x. into lo hi (label_of w x))

pub record Fresh (w w' : List ℕ) : Type 0 where
  pub frame : Within (all_of LABEL) w w'
  pub labels : (x : ℕ) → label_of w' x ≡ x

-- All numbers are v; they count up from 0.
abbrev pub Fills : List ℕ → ℕ → Type 0
Fills l v = (i : ℕ) → i < length l → get_or l i 0 ≡ v

abbrev pub CountsUp : List ℕ → Type 0
CountsUp l = (i : ℕ) → i < length l → get_or l i 0 ≡ i
