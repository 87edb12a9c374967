-- The list of a reason in the table: the records that it names, and whether none of its numbers can be spared.
-- Assumes nothing.
use Rattle.std.specs.Prelude.{ℕ, ◌≤◌, ◌<◌, ◌≡◌, ◌↔◌, length}
use mathlib.Core.List.{List, Memᴰ}
use Rattle.meaning.specs.Following.{Rec, Follows, Only, Without}
use Rattle.meaning.specs.Reasons.{Above}
use Rattle.meaning.specs.Limits.{most_records}
use Rattle.table.specs.Map.{list_of, list_in, records_in, Loaded, Within}
use Rattle.table.specs.Places.{LIST, all_of, most_waiting}
use Rattle.reason_list.specs.Listing.{waiting_in}
use Rattle.moment.specs.declared.Question.{Question}
use Rattle.moment.specs.Posed.{Posed}

-- The first n numbers of the list name records of the table.
pub record Listed (N len n : ℕ) (w : List ℕ) : Type 0 where
  pub loaded : Loaded N len w
  pub short : n ≤ most_records
  pub named : (i : ℕ) → i < n → (1 ≤ list_of w i) × (list_of w i ≤ len)

-- The first n numbers of the list came to where those wait that are tried.
pub record Moved (n : ℕ) (w w' : List ℕ) : Type 0 where
  pub kept : Within (all_of LIST) w w'
  pub is : waiting_in n w' ≡ list_in n w

-- The list names records of the table, each once: in rising order they are as many.
pub record Named (w : List ℕ) (q : Question) (n : ℕ) : Type 0 where
  pub posed : Posed w q
  pub listed : Listed q.size q.len n w
  pub few : n ≤ most_waiting
  pub ordered : List ℕ
  pub rising : Above 0 ordered
  pub many : length ordered ≡ n
  pub same : (x : ℕ) → Memᴰ x ordered ↔ Memᴰ x (list_in n w)

-- None of the list's numbers can be spared.
pub record Unspared (rs : List Rec) (s t : ℕ) (L : List ℕ) : Type 0 where
  pub unspared : (m : ℕ) → Memᴰ m L → Follows (Without rs L m) s t → ⊥

-- The list entails, and none of its numbers can be spared.
pub record Serving (rs : List Rec) (s t : ℕ) (L : List ℕ) : Type 0 where
  pub entails : Follows (Only rs L) s t
  pub unspared : Unspared rs s t L

-- The first n numbers of the table's list make the tags of the question equal.
abbrev pub Entailed : List ℕ → Question → ℕ → Type 0
Entailed w q n = Follows (Only (records_in q.len w) (list_in n w)) q.s.0 q.t.0

abbrev pub NoneSpare : List ℕ → Question → ℕ → Type 0
NoneSpare w q n = Unspared (records_in q.len w) q.s.0 q.t.0 (list_in n w)

abbrev pub Sufficient : List ℕ → Question → ℕ → Type 0
Sufficient w q n = Serving (records_in q.len w) q.s.0 q.t.0 (list_in n w)
