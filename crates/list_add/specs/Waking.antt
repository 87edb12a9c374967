-- The places that wait, in two lists: those of this round, from `first` on, and those of the next, from `last` on. A place that comes to wait is put before the others. No meaning rests
-- on it. Assumes nothing.
use Rattle.std.specs.Prelude.{ℕ, suc, ◌-◌, ◌≤◌, ◌<◌, ◌≡◌, ◌≢◌, ◌⊎◌, Bool}
use mathlib.Core.List.{List, [], ◌∷◌, Memᴰ}
use Rattle.table.specs.Map.{left_of, right_of, label_of, Within, before_of, end_of, member_of, place_of, queue_of}
use Rattle.list_ways.specs.Rings.{Path}
use Rattle.list_add.specs.State.{On}
use Rattle.meaning.specs.Limits.{most_records, most_tags}
use Rattle.table.specs.Places.{Large, QUEUE, all_of, front_size}

-- From the link p on, the places of L wait.
pub data Line (q : ℕ → ℕ) : ℕ → List ℕ → Type 0 where
  end : {p : ℕ} → p ≡ 0 → Line q p []
  next : {p i : ℕ} {L : List ℕ} → p ≡ suc i → 2 ≤ q i → Line q (q i - 2) L → Line q p (i ∷ L)

abbrev pub Waits : List ℕ → ℕ → Type 0
Waits w j = 2 ≤ queue_of w j

-- A place that stands on a list of uses.
abbrev pub Listed : List ℕ → ℕ → Type 0
Listed w i = (b : Bool) × (x : ℕ) × On (before_of b w) i (end_of b w x)

-- The lists of uses can be gone along.
pub record Falling (w : List ℕ) : Type 0 where
  pub long : Large w
  pub heads : (b : Bool) (x : ℕ) → end_of b w x ≤ front_size
  pub falls : (b : Bool) (r : ℕ) → before_of b w r ≤ r

-- From w to w' some places that were in came to wait: they stand before those that `last` led to.
pub record Woken (w w' : List ℕ) (last last' : ℕ) : Type 0 where
  pub kept : Within (all_of QUEUE) w w'
  pub low : last' ≤ front_size
  pub same : (j : ℕ) → queue_of w j ≢ 1 → queue_of w' j ≡ queue_of w j
  pub stays : (j : ℕ) → queue_of w j ≡ 1 → queue_of w' j ≢ 0
  pub from : (j : ℕ) → Waits w' j → Waits w j ⊎ Listed w j
  pub line : (L : List ℕ) → Line (queue_of w) last L → (K : List ℕ) × Line (queue_of w') last' K × ((j : ℕ) → Memᴰ j L → Memᴰ j K) × ((j : ℕ) → Waits w' j → Waits w j ⊎ Memᴰ j K) × ((j : ℕ) → Memᴰ j K → Memᴰ j L ⊎ (queue_of w j ≡ 1))

-- All those of a list of uses, from the link p on.
abbrev pub Awake : Bool → List ℕ → List ℕ → ℕ → Type 0
Awake b w w' p = (j : ℕ) → On (before_of b w) j p → queue_of w' j ≢ 1

-- A place that is in and does not wait, with arguments labelled a and c.
pub record Match (w : List ℕ) (a c j : ℕ) : Type 0 where
  pub rests : queue_of w j ≡ 1
  pub left : label_of w (left_of w (place_of w j)) ≡ a
  pub right : label_of w (right_of w (place_of w j)) ≡ c

-- All those that use a tag of the ring of x.
pub record Roused (w w' : List ℕ) (x last last' : ℕ) : Type 0 where
  pub woken : Woken w w' last last'
  pub list : List ℕ
  pub path : Path (member_of w) (member_of w x) list x
  pub other : (u : ℕ) → Memᴰ u list → u ≢ x
  pub hit : (u : ℕ) → Memᴰ u (x ∷ list) → (b : Bool) → Awake b w w' (end_of b w u)

-- The records of the places that are in can be read.
pub record Legible (w : List ℕ) : Type 0 where
  pub falling : Falling w
  pub read : (j : ℕ) → queue_of w j ≢ 0 → (place_of w j ≤ most_records) × (left_of w (place_of w j) < most_tags) × (right_of w (place_of w j) < most_tags)

-- What was found among the uses of the tags of S: a place that matches, one less than p; or, where p is 0, none matches.
pub record Sought (w : List ℕ) (b : Bool) (S : ℕ → Type 0) (a c p : ℕ) : Type 0 where
  pub low : p ≤ front_size
  pub found : p ≢ 0 → Match w a c (p - 1) × Listed w (p - 1)
  pub none : p ≡ 0 → (z : ℕ) → S z → (j : ℕ) → On (before_of b w) j (end_of b w z) → Match w a c j → ⊥

-- The tags of the ring of x.
abbrev pub Around : List ℕ → ℕ → ℕ → Type 0
Around w x u = (L : List ℕ) × Path (member_of w) (member_of w x) L x × ((v : ℕ) → Memᴰ v L → v ≢ x) × Memᴰ u (x ∷ L)
