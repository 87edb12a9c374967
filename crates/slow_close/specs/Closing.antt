-- Machinery and promise of the closure by passes. `Advanced` is what it promises; the rest holds while it runs.
-- Assumes nothing.
use Rattle.std.specs.Prelude.{ℕ, suc, min, ◌≤◌, ◌<◌, ◌≡◌, ◌≢◌, Bool, true, false, List}
use Rattle.meaning.specs.Following.{Rec}
use Rattle.meaning.specs.Labels.{Labels}
use Rattle.table.specs.Map.{left_of, right_of, result_of, label_of, saved_of, next_of, head_of, records_in, Loaded, Within}
use Rattle.table.specs.Places.{LABEL, NEXT, SAVED, SINCE, Part, all_of, from_to, head_count}
use Rattle.table_labels.specs.Parts.{Own}
use Rattle.slow_passes.specs.Passes.{Every, After, Changes, Passes}
use Rattle.slow_passes.proofs.Passes.{Exact, United}
use Rattle.slow_chain.specs.Chain.{Filled}
use Rattle.slow_chain.specs.Places.{eqn_of, key_of, link_in, Chained}

-- What a pass writes, behind the labels; and what the whole closure writes.
abbrev pub pass_part : Part
pass_part = from_to NEXT.at SINCE.at

abbrev pub slow_part : Part
slow_part = from_to LABEL.at SINCE.at

-- All records of the table.
abbrev pub All : ℕ → List ℕ → Rec → Type 0
All len w = Every (records_in len w)

pub record NewMet (w w' : List ℕ) (N s t : ℕ) (joined : Bool) : Type 0 where
  pub frame : Within (all_of SAVED) w w'
  pub united : United (saved_of w) (saved_of w') s t
  pub own : Own N (saved_of w')
  pub level : joined ≡ false → w' ≡ w
  pub apart : joined ≡ true → saved_of w s ≢ saved_of w t

-- After n passes: the labels are those of `After`.
pub record Frozen (N len n : ℕ) (w : List ℕ) : Type 0 where
  pub loaded : Loaded N len w
  pub labels : Labels (label_of w)
  pub own : Own N (label_of w)
  pub exact : Exact (After (All len w) n) (label_of w)

-- The label to come of the result at a place.
abbrev pub new_res : List ℕ → ℕ → ℕ
new_res w j = saved_of w (result_of w (suc j))

-- The first i places have been met in this pass.
pub record Going (N len n : ℕ) (w : List ℕ) (i : ℕ) : Type 0 where
  pub frozen : Frozen N len n w
  pub labels : Labels (saved_of w)
  pub own : Own N (saved_of w)
  pub keeps : (x y : ℕ) → label_of w x ≡ label_of w y → saved_of w x ≡ saved_of w y
  pub sound : (x y : ℕ) → saved_of w x ≡ saved_of w y → After (All len w) (suc n) x y
  pub chains : Chained w i
  pub filled : Filled head_count (eqn_of w) (key_of w) (new_res w) (head_of w) (next_of w) i
  pub equal : (j : ℕ) → j < i → eqn_of w j ≡ true → saved_of w (left_of w (suc j)) ≡ saved_of w (right_of w (suc j))

-- .. and whether two labels to come were joined.
pub record Turning (N len n : ℕ) (w : List ℕ) (i : ℕ) (joined : Bool) : Type 0 where
  pub going : Going N len n w i
  pub still : joined ≡ false → saved_of w ≡ label_of w
  pub moved : joined ≡ true → Changes (All len w) n

-- The record at place i is to be met, and was.
pub record Stepping (N len n : ℕ) (w : List ℕ) (i : ℕ) : Type 0 where
  pub going : Going N len n w i
  pub place : i < len

-- The application at place i is to be met with the one that the link p leads to, which the chains have for its key.
pub record Unifying (N len n : ℕ) (w : List ℕ) (p i : ℕ) : Type 0 where
  pub step : Stepping N len n w i
  pub app : eqn_of w i ≡ false
  pub found : p ≡ link_in w i
  pub hit : 0 < p

pub record Stepped (N len n : ℕ) (w : List ℕ) (i : ℕ) (w' : List ℕ) (joined : Bool) : Type 0 where
  pub going : Going N len n w' (suc i)
  pub kept : Within pass_part w w'
  pub level : joined ≡ false → saved_of w' ≡ saved_of w
  pub moved : joined ≡ true → Changes (All len w) n

-- A whole pass.
pub record PassDone (N len n : ℕ) (w w' : List ℕ) (joined : Bool) : Type 0 where
  pub kept : Within pass_part w w'
  pub frozen : Frozen N len n w'
  pub labels : Labels (saved_of w')
  pub own : Own N (saved_of w')
  pub exact : Exact (After (All len w') (suc n)) (saved_of w')
  pub still : joined ≡ false → saved_of w' ≡ label_of w'
  pub moved : joined ≡ true → Changes (All len w') n

-- .. after which the labels to come are the labels.
pub record Turned (N len n : ℕ) (w w' : List ℕ) (joined : Bool) : Type 0 where
  pub kept : Within slow_part w w'
  pub frozen : Frozen N len (suc n) w'
  pub still : joined ≡ false → label_of w' ≡ label_of w
  pub moved : joined ≡ true → Changes (All len w) n

-- Between two passes.
pub record Between (N len most : ℕ) (w w' : List ℕ) (n : ℕ) : Type 0 where
  pub kept : Within slow_part w w'
  pub frozen : Frozen N len n w'
  pub low : n ≤ most
  pub changing : (j : ℕ) → j < n → Changes (All len w) j

-- What the engine leaves: of the passes that change something so many were made and no more, or all of them; and the labels are those after them.
pub record Advanced (N len most : ℕ) (w w' : List ℕ) (c : ℕ) : Type 0 where
  pub kept : Within slow_part w w'
  pub count : ℕ
  pub passes : Passes (All len w) count
  pub made : c ≡ min most count
  pub labels : Labels (label_of w')
  pub exact : Exact (After (All len w) c) (label_of w')
