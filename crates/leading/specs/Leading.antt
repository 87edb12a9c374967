-- The leaders of all tags at a moment, by labels and seats. Document 02, No. 3.
-- Assumes nothing.
use Rattle.std.specs.Prelude.{ℕ, ◌≤◌, ◌<◌, ◌≡◌, List}
use Rattle.meaning.specs.Following.{UpTo, Leader}
use Rattle.meaning.specs.Limits.{most_tags}
use Rattle.meaning.specs.Seats.{Found}
use Rattle.table.specs.Map.{records_in, label_of, saved_of, Within}
use Rattle.table.specs.Past.{Past}
use Rattle.table.specs.Places.{LABEL, Large, Part, SAVED, SINCE, all_of, from_to}
use Rattle.moment.specs.Meeting.{leader_at, Forested}

-- The labels and all behind them; the seats are the last of these.
abbrev pub seating_part : Part
seating_part = from_to LABEL.at SINCE.at

-- The seat of the label of x.
abbrev pub leader_in : List ℕ → ℕ → ℕ
leader_in w x = saved_of w (label_of w x)

-- The labels of the first n tags in w' are the smallest of their classes by the links of w older than a.
abbrev pub Labelled : List ℕ → List ℕ → ℕ → ℕ → Type 0
Labelled w w' n a = (x : ℕ) → x < n → label_of w' x ≡ leader_at w a x

-- The same, and each of these tags is on its own seat.
pub record Scanned (w w' : List ℕ) (n a : ℕ) : Type 0 where
  pub frame : Within seating_part w w'
  pub labelled : Labelled w w' n a
  pub own : (x : ℕ) → x < n → saved_of w' x ≡ x

pub record Seatable (w : List ℕ) (n u : ℕ) : Type 0 where
  pub long : Large w
  pub few : n ≤ most_tags
  pub units : u ≤ n
  pub low : (x : ℕ) → x < n → label_of w x < n
  pub own : (x : ℕ) → x < n → saved_of w x ≡ x

-- The seat of a label is the first unit with it, or the label itself.
pub record Seated (w w' : List ℕ) (n u : ℕ) : Type 0 where
  pub frame : Within (all_of SAVED) w w'
  pub seats : (l : ℕ) → l < n → Found (label_of w) l u n (saved_of w' l)

-- The links stand, with N tags of which those from U up are units.
pub record Leadable (w : List ℕ) (N U joins : ℕ) : Type 0 where
  pub forest : Forested w
  pub few : N ≤ most_tags
  pub units : U ≤ N
  pub low : joins ≤ most_tags

-- Every tag has its leader by the records before a moment, and only labels and what lies behind them have changed.
pub record Led (w w' : List ℕ) (N U joins before : ℕ) : Type 0 where
  pub frame : Within seating_part w w'
  pub low : (x : ℕ) → x < N → label_of w' x < N
  pub leads : (len : ℕ) → Past N len w joins → before ≤ len → (x : ℕ) → x < N → Leader U (UpTo (records_in len w) before) x (leader_in w' x)

-- l leads s and m leads t, by the same records.
pub record Leaders (w w' : List ℕ) (N U joins before s t l m : ℕ) : Type 0 where
  pub frame : Within seating_part w w'
  pub leads : (len : ℕ) → Past N len w joins → before ≤ len → Leader U (UpTo (records_in len w) before) s l × Leader U (UpTo (records_in len w) before) t m
