-- The promise of adding places to those that are in. No meaning rests on it. Assumes nothing.
use Rattle.std.specs.Prelude.{ℕ, ◌≤◌, ◌<◌, ◌≡◌, ◌≢◌, ◌⊎◌, Bool, List}
use Rattle.table.specs.Map.{Within, before_of, end_of, place_of, queue_of, trail_of}
use Rattle.list_ways.specs.Halves.{Outside}
use Rattle.list_rings.specs.Links.{Since}
use Rattle.list_add.specs.State.{In, Rested}
use Rattle.table.specs.Places.{add_part}

-- The lists of uses, and the trail of the first k joins, are as they were.
pub record Steady (k : ℕ) (w w' : List ℕ) : Type 0 where
  pub uses : (b : Bool) → end_of b w' ≡ end_of b w
  pub others : (b : Bool) → before_of b w' ≡ before_of b w
  pub trail : (j : ℕ) → j < k → trail_of w' j ≡ trail_of w j

-- Places lo..hi are out, and to be added; and were, those that are not left out.
pub record Adding (N len n : ℕ) (w : List ℕ) (lo hi k : ℕ) : Type 0 where
  pub rested : Rested N len n w k
  pub order : lo ≤ hi
  pub top : hi ≤ n
  pub outs : (j : ℕ) → lo ≤ j → j < hi → queue_of w j ≡ 0

pub record Added (N len n : ℕ) (w w' : List ℕ) (lo hi k k' : ℕ) : Type 0 where
  pub kept : Within add_part w w'
  pub steady : Steady k w w'
  pub rested : Rested N len n w' k'
  pub since : Since (trail_of w') k w k' w'
  pub added : (j : ℕ) → lo ≤ j → j < hi → place_of w j ≢ 0 → In w' j
  pub else : (j : ℕ) → Outside lo hi j ⊎ (place_of w j ≡ 0) → queue_of w' j ≡ queue_of w j
