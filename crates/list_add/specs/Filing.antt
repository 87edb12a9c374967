-- What stands before the first place is added: the lists of uses, and nothing in. No meaning rests on it. Assumes nothing.
use Rattle.std.specs.Prelude.{ℕ, suc, ◌-◌, ◌≤◌, ◌<◌, ◌≡◌, ◌≢◌, Bool, not, List}
use Rattle.meaning.specs.Joins.{put}
use Rattle.table.specs.Places.{EQUATION, add_part, front_size, uses_part, wipe_part}
use Rattle.table.specs.Map.{result_of, Loaded, Within, before_of, end_of, place_of, queue_of}
use Rattle.list_rings.specs.Links.{Standing}
use Rattle.list_add.specs.State.{arg_of, On, Rested}

-- Place i became the last that has x for that argument, and the one before it is the one that was; the other argument is left alone.
pub record Used (b : Bool) (w w' : List ℕ) (x i : ℕ) : Type 0 where
  pub kept : Within uses_part w w'
  pub uses : end_of b w' ≡ put x (suc i) (end_of b w)
  pub others : before_of b w' ≡ put i (end_of b w x) (before_of b w)
  pub uses-else : end_of (not b) w' ≡ end_of (not b) w
  pub others-else : before_of (not b) w' ≡ before_of (not b) w

-- The first n places of the list have numbers of records that the table holds.
pub record Listing (N len n : ℕ) (w : List ℕ) : Type 0 where
  pub loaded : Loaded N len w
  pub short : n ≤ front_size
  pub named : (j : ℕ) → j < n → (1 ≤ place_of w j) × (place_of w j ≤ len)

-- One list of uses for each tag: of the first n places, those of which A holds stand on the list of their tag g, and links only fall.
pub record Lists (n : ℕ) (u o : ℕ → ℕ) (A : ℕ → Type 0) (g : ℕ → ℕ) : Type 0 where
  pub heads : (x : ℕ) → u x ≤ n
  pub falls : (r : ℕ) → o r ≤ r
  pub head-app : (x : ℕ) → 0 < u x → A (u x - 1)
  pub next-app : (r : ℕ) → 0 < o r → A (o r - 1)
  pub filed : (i : ℕ) → i < n → A i → On o i (u (g i))

-- The first i of them are filed, no tags are joined, and none is in.
pub record Filing (N len n : ℕ) (w : List ℕ) (i : ℕ) : Type 0 where
  pub listing : Listing N len n w
  pub standing : Standing w 0
  pub idle : (j : ℕ) → queue_of w j ≡ 0
  pub filed : (b : Bool) → Lists i (end_of b w) (before_of b w) (λ j. result_of w (place_of w j) ≢ EQUATION) (λ j. arg_of b w (place_of w j))

-- No place uses a tag, and none is in.
pub record Wiped (w w' : List ℕ) : Type 0 where
  pub kept : Within wipe_part w w'
  pub uses : (b : Bool) (x : ℕ) → end_of b w' x ≡ 0
  pub others : (b : Bool) (x : ℕ) → before_of b w' x ≡ 0
  pub idle : (j : ℕ) → queue_of w' j ≡ 0

-- All are filed, and none is in.
pub record Begun (N len n : ℕ) (w w' : List ℕ) : Type 0 where
  pub kept : Within add_part w w'
  pub rested : Rested N len n w' 0
  pub outs : (j : ℕ) → queue_of w' j ≡ 0
