-- Machinery: the records by place, record number j + 1 at place j, and what the chains have for their keys. No meaning rests on it.
-- Assumes nothing.
use Rattle.std.specs.Prelude.{ℕ, suc, ◌≤◌, ◌<◌, Bool, List, eqb}
use Rattle.table.specs.Map.{result_of, next_of, head_of, Loaded}
use Rattle.table.specs.Places.{EQUATION, head_count}
use Rattle.table_labels.specs.Chain.{look}
use Rattle.table_labels.specs.Parts.{key_in}
use Rattle.slow_chain.specs.Chain.{Chains}

-- Whether the record at a place is an equation, and both argument labels as one number.
abbrev pub eqn_of : List ℕ → ℕ → Bool
eqn_of w j = eqb (result_of w (suc j)) EQUATION

abbrev pub key_of : List ℕ → ℕ → ℕ
key_of w j = key_in w (suc j)

-- What the chains have for a key, and for that of the record at place i.
abbrev pub found_in : List ℕ → ℕ → ℕ
found_in w x = look head_count (key_of w) (head_of w) (next_of w) x

abbrev pub link_in : List ℕ → ℕ → ℕ
link_in w i = found_in w (key_of w i)

abbrev pub Chained : List ℕ → ℕ → Type 0
Chained w i = Chains (eqn_of w) (head_of w) (next_of w) i

-- The chains hold places below i, so that its record can be looked up.
pub record Finding (N len : ℕ) (w : List ℕ) (i : ℕ) : Type 0 where
  pub loaded : Loaded N len w
  pub place : i < len
  pub heads : (b : ℕ) → head_of w b ≤ i
  pub falls : (r : ℕ) → next_of w r ≤ r
