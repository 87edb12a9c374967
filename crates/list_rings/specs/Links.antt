-- Classes of tags in the work table: labels, rings and the trail of labels that went; what joins two classes, and what goes back to where a number of joins had been made. No meaning rests
-- on it. Assumes nothing.
use Rattle.std.specs.Prelude.{ℕ, suc, ◌≤◌, ◌<◌, ◌≡◌, ◌≢◌}
use mathlib.Core.List.{List, ◌∷◌, Memᴰ}
use Rattle.meaning.specs.Joins.{put}
use Rattle.meaning.specs.Labels.{into}
use Rattle.meaning.specs.Limits.{most_tags}
use Rattle.table.specs.Places.{LABEL, Large, all_of, class_part, link_part, ring_part}
use Rattle.table.specs.Map.{label_of, Within, member_of, trail_of}
use Rattle.list_ways.specs.Rings.{Path, Grown, Built, swapped, Ahead}

-- From table to table, join number k and later up to number k' were made; and k joins were made in all.
abbrev pub Since : (ℕ → ℕ) → ℕ → List ℕ → ℕ → List ℕ → Type 0
Since tr k w k' w' = Grown most_tags tr k (label_of w) (member_of w) k' (label_of w') (member_of w')

pub record Standing (w : List ℕ) (k : ℕ) : Type 0 where
  pub long : Large w
  pub built : Built most_tags (trail_of w) k (label_of w) (member_of w)

-- One can go round from x.
pub record Ringed (w : List ℕ) (x : ℕ) : Type 0 where
  pub long : Large w
  pub tag : x < most_tags
  pub rest : List ℕ
  pub ahead : Ahead most_tags (member_of w) x (member_of w x) rest

-- From w to w' those of the ring of x were labelled v, and no other.
pub record Named (w w' : List ℕ) (x v : ℕ) : Type 0 where
  pub kept : Within (all_of LABEL) w w'
  pub list : List ℕ
  pub path : Path (member_of w) (member_of w x) list x
  pub other : (u : ℕ) → Memᴰ u list → u ≢ x
  pub hit : (u : ℕ) → Memᴰ u (x ∷ list) → label_of w' u ≡ v
  pub miss : (u : ℕ) → (Memᴰ u (x ∷ list) → ⊥) → label_of w' u ≡ label_of w u

-- The tags after x and y were exchanged. Weights are free to change.
pub record Exchanged (w w' : List ℕ) (x y : ℕ) : Type 0 where
  pub kept : Within ring_part w w'
  pub members : member_of w' ≡ swapped x y (member_of w)

-- x became a class of its own, and no other tag changed; and each tag did.
pub record Lone (w w' : List ℕ) (x : ℕ) : Type 0 where
  pub kept : Within class_part w w'
  pub labels : label_of w' ≡ put x x (label_of w)
  pub members : member_of w' ≡ put x x (member_of w)

pub record Scattered (w w' : List ℕ) : Type 0 where
  pub kept : Within class_part w w'
  pub standing : Standing w' 0

-- Join number k was made: x, whose class went, stands in the trail.
pub record Linked (w w' : List ℕ) (x y k : ℕ) : Type 0 where
  pub kept : Within link_part w w'
  pub labels : label_of w' ≡ (λ z. into y x (label_of w z))
  pub trail : trail_of w' ≡ put k x (trail_of w)
  pub grown : Since (trail_of w') k w (suc k) w'
  pub standing : Standing w' (suc k)

-- Join number j, the last one, was taken back.
pub record Unlinked (w w' : List ℕ) (j : ℕ) : Type 0 where
  pub kept : Within class_part w w'
  pub standing : Standing w' j
  pub back : (k : ℕ) (w₀ : List ℕ) → k ≤ j → Standing w₀ k → Since (trail_of w) k w₀ (suc j) w → Since (trail_of w) k w₀ j w'

-- All joins from number k on were: labels and rings are as they were when k joins had been made.
pub record Returned (w w' : List ℕ) (k j : ℕ) : Type 0 where
  pub kept : Within class_part w w'
  pub standing : Standing w' k
  pub back : (w₀ : List ℕ) → Standing w₀ k → Since (trail_of w) k w₀ j w → (label_of w' ≡ label_of w₀) × (member_of w' ≡ member_of w₀)
