-- What holds while places are added. No meaning rests on it. Assumes nothing.
use Rattle.std.specs.Prelude.{ℕ, ◌+◌, ◌-◌, ◌*◌, ◌≤◌, ◌<◌, leb, ◌≡◌, ◌≢◌, ◌↔◌, ◌⊎◌}
use Rattle.meaning.specs.Joins.{count}
use mathlib.Core.List.{List, Memᴰ}
use Rattle.meaning.specs.Following.{Rec, Follows, Those}
use Rattle.meaning.specs.Limits.{most_tags}
use Rattle.table.specs.Places.{EQUATION, add_part, front_size}
use Rattle.table.specs.Map.{left_of, right_of, result_of, label_of, records_in, Loaded, Within, place_of, queue_of, trail_of}
use Rattle.list_ways.specs.Halves.{Picked}
use Rattle.list_ways.specs.Adding.{Resting}
use Rattle.list_rings.specs.Links.{Since, Standing}
use Rattle.list_add.specs.State.{Filed, In}
use Rattle.list_add.specs.Adding.{Steady}
use Rattle.list_add.specs.Waking.{Line, Waits, Match}

-- The records of the places that are in; the applications among these places.
abbrev pub InSet : ℕ → ℕ → List ℕ → Rec → Type 0
InSet len n w = Those (records_in len w) (Picked (place_of w) n (In w))

abbrev pub App : List ℕ → ℕ → Type 0
App w j = In w j × (result_of w (place_of w j) ≢ EQUATION)

-- After k joins: labels lead within what follows from the places that are in, applications that do not wait agree, and those that wait stand on two lists.
pub record Busy (N len n : ℕ) (w : List ℕ) (first last k : ℕ) : Type 0 where
  pub loaded : Loaded N len w
  pub short : n ≤ front_size
  pub named : (j : ℕ) → j < n → place_of w j ≤ len
  pub standing : Standing w k
  pub filed : Filed n w
  pub in-named : (j : ℕ) → In w j → (j < n) × (place_of w j ≢ 0)
  pub sound : (x : ℕ) → Follows (InSet len n w) x (label_of w x)
  pub resting : Resting (App w) (Waits w) (λ j. left_of w (place_of w j)) (λ j. right_of w (place_of w j)) (λ j. result_of w (place_of w j)) (label_of w)
  pub waits-app : (j : ℕ) → Waits w j → result_of w (place_of w j) ≢ EQUATION
  pub last-low : last ≤ front_size
  pub this : List ℕ
  pub this-line : Line (queue_of w) first this
  pub after : List ℕ
  pub after_line : Line (queue_of w) last after
  pub apart : (j : ℕ) → Memᴰ j this → Memᴰ j after → ⊥
  pub all : (j : ℕ) → Waits w j → Memᴰ j this ⊎ Memᴰ j after

-- From w to w' joins k up to k' were made, and the same places are in.
pub record Went (w w' : List ℕ) (k k' : ℕ) : Type 0 where
  pub kept : Within add_part w w'
  pub steady : Steady k w w'
  pub since : Since (trail_of w') k w k' w'
  pub ins : (j : ℕ) → In w' j ↔ In w j

-- With the labels as they are, place j need not wait: one that does not wait has its argument labels and its result label, or none has its argument labels.
pub data Fits (w : List ℕ) (j : ℕ) : Type 0 where
  twin : (q : ℕ) → App w q → (Waits w q → ⊥) → label_of w (left_of w (place_of w j)) ≡ label_of w (left_of w (place_of w q)) → label_of w (right_of w (place_of w j)) ≡ label_of w (right_of w (place_of w q))
      → label_of w (result_of w (place_of w j)) ≡ label_of w (result_of w (place_of w q)) → Fits w j
  alone : ((q : ℕ) → App w q → (Waits w q → ⊥) → label_of w (left_of w (place_of w j)) ≡ label_of w (left_of w (place_of w q)) → label_of w (right_of w (place_of w j)) ≡ label_of w (right_of w (place_of w q)) → ⊥) → Fits w j

-- The next round begins where this one is over.
pub record Turned (first last first' last' : ℕ) : Type 0 where
  pub goes : first ≢ 0 → (first' ≡ first) × (last' ≡ last)
  pub begins : first ≡ 0 → (first' ≡ last) × (last' ≡ 0)

-- How many places wait; and what falls with each step: a join is made, or one place fewer waits.
abbrev pub waiting : List ℕ → ℕ
waiting w = count (λ j. leb 2 (queue_of w j)) front_size

abbrev pub rank : List ℕ → ℕ → ℕ
rank w k = (most_tags - k) * (1 + front_size) + waiting w

-- What was found for place j: one less than p is an application that does not wait and has its argument labels; or none has.
pub record Twinned (w : List ℕ) (j p : ℕ) : Type 0 where
  pub low : p ≤ front_size
  pub found : p ≢ 0 → App w (p - 1) × Match w (label_of w (left_of w (place_of w j))) (label_of w (right_of w (place_of w j))) (p - 1)
  pub none : p ≡ 0 → Fits w j
