-- Machinery: what holds of the table while those that wait are met. No meaning rests on it. Record number j + 1 has place j.
-- Assumes nothing.
use Rattle.std.specs.Prelude.{ℕ, suc, ◌≤◌, ◌<◌, ◌≡◌, true, List}
use Rattle.table.specs.Map.{left_of, right_of, label_of, chain_of, Within}
use Rattle.table.specs.Places.{behind_columns}
use Rattle.all_index.specs.declared.Front.{Front}
use Rattle.all_index.specs.Waiting.{waiting}
use Rattle.all_index.specs.State.{eqn_at, key_at, found_in, Indexed}
use Rattle.all_join.specs.State.{Standing}

-- The equations that are in have equal labels.
abbrev pub Level : ℕ → List ℕ → Type 0
Level i w = (j : ℕ) → j < i → eqn_at w j ≡ true → label_of w (left_of w (suc j)) ≡ label_of w (right_of w (suc j))

-- All records that are in hold, but for applications that wait.
pub record Open (t : Front) (w : List ℕ) (n first : ℕ) : Type 0 where
  pub standing : Standing t w n
  pub indexed : Indexed t w first
  pub level : Level t.places w

-- The application at place j, the first that waits, has the key x, and the link p is what the chains have for it.
pub record Sought (t : Front) (w : List ℕ) (x p j n : ℕ) : Type 0 where
  pub state : Open t w n (suc j)
  pub key : x ≡ key_at w j
  pub found : p ≡ found_in w (key_at w j)

-- The application at place j, the first that waits, is to be met with the one that the chains have for its key.
pub record Unifying (t : Front) (w : List ℕ) (p j n : ℕ) : Type 0 where
  pub state : Open t w n (suc j)
  pub found : p ≡ found_in w (key_at w j)
  pub hit : 0 < p

-- It was met: n' joins now, or fewer that wait.
pub record Gone (t : Front) (w : List ℕ) (n : ℕ) (w' : List ℕ) (n' first : ℕ) : Type 0 where
  pub frame : Within behind_columns w w'
  pub state : Open t w' n' first
  pub more : n ≤ n'
  pub less : n' ≡ n → waiting t.places (chain_of w') < waiting t.places (chain_of w)
