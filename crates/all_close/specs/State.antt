-- Machinery: what holds of the table between two records, and before the first. No meaning rests on it.
-- Assumes nothing.
use Rattle.std.specs.Prelude.{ℕ, suc, ◌-◌, ◌≤◌, ◌<◌, ◌≡◌, ◌↔◌, Bool, true, false, List, get_or}
use Rattle.meaning.specs.Totals.{Idle}
use Rattle.meaning.specs.Limits.{most_tags, named_numbers}
use Rattle.table.specs.Map.{left_of, right_of, parent_of, age_of, label_of, use_of, chain_of, bucket_of, records_in, Within}
use Rattle.table.specs.Places.{AGE, PARENT, all_of, behind_columns}
use Rattle.all_index.specs.declared.Front.{Front}
use Rattle.all_index.specs.State.{eqn_at, key_at, res_at, found_in}
use Rattle.all_settle.specs.State.{Open}

-- Records 1 to i of len are in, and all hold.
abbrev pub front : ℕ → ℕ → ℕ → Front
front N len i = record { size = N; len = len; places = i }

abbrev pub Between : ℕ → ℕ → ℕ → List ℕ → ℕ → Type 0
Between N len i w n = Open (front N len i) w n 0

-- The record of place i is to come in, and t counts it.
pub record Coming (t : Front) (w : List ℕ) (i n : ℕ) : Type 0 where
  pub between : Between t.size t.len i w n
  pub low : i < t.len
  pub counted : t.places ≡ suc i

-- The application at place i is to come in, and the link p is what the chains have for its arguments' labels.
pub record Looked (t : Front) (w : List ℕ) (i p : ℕ) : Type 0 where
  pub joins : ℕ
  pub coming : Coming t w i joins
  pub application : eqn_at w i ≡ false
  pub found : p ≡ found_in w (key_at w i)

-- The chains have an application with the arguments' labels of the one at place i, and its result's label.
pub record Again (w : List ℕ) (i : ℕ) : Type 0 where
  pub hit : 0 < found_in w (key_at w i)
  pub result : res_at w (found_in w (key_at w i) - 1) ≡ res_at w i

-- The application at place i is in and waits; what the chains have for its arguments' labels is what they had.
pub record Entered (t : Front) (w : List ℕ) (i n : ℕ) (w' : List ℕ) : Type 0 where
  pub frame : Within behind_columns w w'
  pub state : Open t w' n (suc i)
  pub key : key_at w' i ≡ key_at w i
  pub found : found_in w' (key_at w' i) ≡ found_in w (key_at w i)

-- The equation at place i is in. It made no join exactly if its tags had one label.
pub record Equated (t : Front) (w : List ℕ) (i n : ℕ) (w' : List ℕ) (n' first : ℕ) : Type 0 where
  pub frame : Within behind_columns w w'
  pub state : Open t w' n' first
  pub more : n ≤ n'
  pub level : (n' ≡ n) ↔ (label_of w (left_of w (suc i)) ≡ label_of w (right_of w (suc i)))

-- One more is in, and it is known whether it is idle.
pub record Admitted (N len i : ℕ) (w : List ℕ) (n : ℕ) (w' : List ℕ) (n' : ℕ) (idle : Bool) : Type 0 where
  pub frame : Within behind_columns w w'
  pub between : Between N len (suc i) w' n'
  pub more : n ≤ n'
  pub idles : (idle ≡ true) ↔ Idle (records_in len w) i

-- .. and before the first.
pub record Begun (w w' : List ℕ) : Type 0 where
  pub frame : Within behind_columns w w'
  pub ages : (x : ℕ) → age_of w' x ≡ most_tags
  pub tops : (x : ℕ) → parent_of w' x ≡ x
  pub labels : (x : ℕ) → label_of w' x ≡ x
  pub chains : (r : ℕ) → chain_of w' r ≡ 0
  pub buckets : (b : ℕ) → bucket_of w' b ≡ 0
  pub uses : (second : Bool) (x : ℕ) → use_of second w' x ≡ 0

-- Nothing that was lent is left behind the columns.
pub record Wiped (w w' : List ℕ) : Type 0 where
  pub frame : Within behind_columns w w'
  pub zero : (i : ℕ) → PARENT.at ≤ i → i < named_numbers → get_or w' i 0 ≡ 0

-- No tag is linked.
pub record Unlinked (w w' : List ℕ) : Type 0 where
  pub frame : Within (all_of AGE) w w'
  pub ages : (x : ℕ) → age_of w' x ≡ most_tags
