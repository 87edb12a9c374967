-- What stands in the work table while spare records are taken out, and what holds between two additions. No meaning rests on it. Assumes nothing.
use Rattle.std.specs.Prelude.{ℕ, suc, ◌-◌, ◌≤◌, ◌<◌, ◌≡◌, ◌≢◌, ◌↔◌, Bool, cond, List}
use Rattle.meaning.specs.Following.{Follows, Those}
use Rattle.table.specs.Places.{EQUATION, front_size}
use Rattle.table.specs.Map.{left_of, right_of, result_of, label_of, records_in, Loaded, before_of, end_of, place_of, queue_of}
use Rattle.list_ways.specs.Halves.{Picked}
use Rattle.list_rings.specs.Links.{Standing}

-- That argument of a record.
abbrev pub arg_of : Bool → List ℕ → ℕ → ℕ
arg_of second w k = cond second (right_of w k) (left_of w k)

-- Place i stands on the chain that begins at the link p.
pub data On (nx : ℕ → ℕ) (i : ℕ) : ℕ → Type 0 where
  here : {p : ℕ} → p ≡ suc i → On nx i p
  later : {p r : ℕ} → p ≡ suc r → On nx i (nx r) → On nx i p

-- The lists of uses of the first n places: links only fall, applications stand on the lists of both arguments, and nothing else on any.
pub record Filed (n : ℕ) (w : List ℕ) : Type 0 where
  pub heads : (b : Bool) (x : ℕ) → end_of b w x ≤ n
  pub falls : (b : Bool) (r : ℕ) → before_of b w r ≤ r
  pub head-app : (b : Bool) (x : ℕ) → 0 < end_of b w x → place_of w (end_of b w x - 1) ≢ 0 → result_of w (place_of w (end_of b w x - 1)) ≢ EQUATION
  pub next-app : (b : Bool) (r : ℕ) → 0 < before_of b w r → place_of w (before_of b w r - 1) ≢ 0 → result_of w (place_of w (before_of b w r - 1)) ≢ EQUATION
  pub filed : (b : Bool) (i : ℕ) → i < n → place_of w i ≢ 0 → result_of w (place_of w i) ≢ EQUATION → On (before_of b w) i (end_of b w (arg_of b w (place_of w i)))

-- The places that are in.
abbrev pub In : List ℕ → ℕ → Type 0
In w j = queue_of w j ≢ 0

-- After k joins: none waits, and the labels decide what follows from the places that are in.
pub record Rested (N len n : ℕ) (w : List ℕ) (k : ℕ) : Type 0 where
  pub loaded : Loaded N len w
  pub short : n ≤ front_size
  pub named : (j : ℕ) → j < n → place_of w j ≤ len
  pub standing : Standing w k
  pub filed : Filed n w
  pub idle : (j : ℕ) → queue_of w j ≤ 1
  pub in-named : (j : ℕ) → In w j → (j < n) × (place_of w j ≢ 0)
  pub exact : (x y : ℕ) → (label_of w x ≡ label_of w y) ↔ Follows (Those (records_in len w) (Picked (place_of w) n (In w))) x y
