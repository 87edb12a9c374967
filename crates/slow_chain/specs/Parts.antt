-- Machinery: parts of the table that a pass writes. No meaning rests on it.
-- Assumes nothing.
use Rattle.std.specs.Prelude.{ℕ, ◌≡◌, List}
use Rattle.meaning.specs.Labels.{into}
use Rattle.table.specs.Map.{label_of, saved_of, next_of, head_of, Within}
use Rattle.table.specs.Places.{LABEL, SAVED, all_of, chain_part}

-- The labels to come begin as the labels; the labels are those that were to come; of those to come hi became lo; no chains.
pub record Preserved (w w' : List ℕ) : Type 0 where
  pub frame : Within (all_of SAVED) w w'
  pub saved : saved_of w' ≡ label_of w

pub record Restored (w w' : List ℕ) : Type 0 where
  pub frame : Within (all_of LABEL) w w'
  pub labels : label_of w' ≡ saved_of w

pub record NewLabelled (w w' : List ℕ) (lo hi : ℕ) : Type 0 where
  pub frame : Within (all_of SAVED) w w'
  pub labels : saved_of w' ≡ (λ x. into lo hi (saved_of w x))

pub record Cleared (w w' : List ℕ) : Type 0 where
  pub frame : Within chain_part w w'
  pub heads : (b : ℕ) → head_of w' b ≡ 0
  pub nexts : (r : ℕ) → next_of w' r ≡ 0
