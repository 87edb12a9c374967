-- Machinery: what holds of the table before and after a join, while all records are closed. No meaning rests on it. Record number j + 1 has place j.
-- Assumes nothing.
use Rattle.std.specs.Prelude.{ℕ, suc, ◌+◌, ◌≤◌, ◌<◌, ◌≡◌, ◌≢◌, ◌⊎◌, leb, set}
use mathlib.Core.List.{List, Memᴰ}
use Rattle.meaning.specs.Following.{Rec, Follows, Only}
use Rattle.meaning.specs.Joins.{Join, Grounds, Justified, all, numbers_of, used, count}
use Rattle.meaning.specs.Labels.{classes}
use Rattle.meaning.specs.Forest.{root, History}
use Rattle.meaning.proofs.Exact.{Settled}
use Rattle.meaning.specs.Limits.{most_tags}
use Rattle.table.specs.Map.{parent_of, age_of, when_of, label_of, gather, join_by, join_at, records_in, Loaded, Within}
use Rattle.table.specs.Places.{AGE, FIRST, PARENT, SECOND, WHEN, behind_columns}
use Rattle.table_labels.specs.Parts.{Own}
use Rattle.all_index.specs.declared.Front.{Front}
use Rattle.all_index.specs.State.{Indexed}
use Rattle.all_join.specs.declared.Side.{Side}

-- The numbers 1 to n.
abbrev pub up_to : ℕ → List ℕ
up_to n = gather suc n

-- The joins kept so far, when the records 1 to `places` are being closed: a log with its forest, and each moment before this one.
pub record Logged (rs : List Rec) (L : List ℕ) (places : ℕ) (p g : ℕ → ℕ) (e : ℕ → Join) (wh : ℕ → ℕ) (n : ℕ) : Type 0 where
  pub history : History e n p g most_tags
  pub justified : Justified rs e n
  pub within : (k : ℕ) → Memᴰ k (used e all n) → Memᴰ k L
  pub made : (a : ℕ) → a < n → (1 ≤ wh a) × (wh a ≤ places)
  pub order : (a b : ℕ) → a ≤ b → b < n → wh a ≤ wh b
  pub moments : (k : ℕ) → k < places → Settled rs (λ m. m ≤ k) e (count (λ a. leb (wh a) k) n) (root p g (count (λ a. leb (wh a) k) n))

-- The leader of a tag after n joins.
abbrev pub lead_of : List ℕ → ℕ → ℕ → ℕ
lead_of w n = root (parent_of w) (age_of w) n

-- Labels tell classes apart: tags have one label exactly if they have one leader. A label is a tag of its class.
pub record Marked (N : ℕ) (l f : ℕ → ℕ) : Type 0 where
  pub same : (x y : ℕ) → f x ≡ f y → l x ≡ l y
  pub apart : (x y : ℕ) → l x ≡ l y → f x ≡ f y
  pub flat : (x : ℕ) → l (l x) ≡ l x
  pub low : (x : ℕ) → x < N → l x < N

-- A tag that leads its class has no link. In the place of the link the table holds the largest tag of the class.
pub record Topped (N : ℕ) (f p : ℕ → ℕ) : Type 0 where
  pub above : (x : ℕ) → x < N → x ≤ p (f x)
  pub below : (x : ℕ) → x < N → f x ≡ x → p x < N

-- After n joins: tags lead within what follows from the records that are in, each join made one class fewer and stands in the log, and labels tell the classes apart.
pub record Standing (t : Front) (w : List ℕ) (n : ℕ) : Type 0 where
  pub loaded : Loaded t.size t.len w
  pub reach : t.places ≤ t.len
  pub sound : (x : ℕ) → Follows (Only (records_in t.len w) (up_to t.places)) x (lead_of w n x)
  pub total : n + classes (lead_of w n) t.size ≡ t.size
  pub own : Own t.size (lead_of w n)
  pub tops : Topped t.size (lead_of w n) (parent_of w)
  pub log : Logged (records_in t.len w) (up_to t.places) t.places (parent_of w) (age_of w) (join_at w) (when_of w) n
  pub marks : Marked t.size (label_of w) (lead_of w n)

-- A join is due: its records stand in the list, and their arguments have equal labels.
pub record Due (N : ℕ) (rs : List Rec) (L : List ℕ) (f : ℕ → ℕ) (j : Join) : Type 0 where
  pub tags : (j.u < N) × (j.v < N)
  pub grounds : Grounds rs (λ x y. f x ≡ f y) j.u j.v j.why
  pub within : (k : ℕ) → Memᴰ k (numbers_of j.why) → Memᴰ k L

-- The join of two records is due, whose ends are labelled a and b.
pub record Joining (t : Front) (w : List ℕ) (n first k k' a b : ℕ) : Type 0 where
  pub standing : Standing t w n
  pub indexed : Indexed t w first
  pub some : 1 ≤ t.places
  pub due : Due t.size (records_in t.len w) (up_to t.places) (label_of w) (join_by w k k')
  pub apart : a ≢ b
  pub ends : ((label_of w (join_by w k k').u ≡ a) × (label_of w (join_by w k k').v ≡ b)) ⊎ ((label_of w (join_by w k k').u ≡ b) × (label_of w (join_by w k k').v ≡ a))

-- The five stores that keep it.
abbrev pub noted : List ℕ → ℕ → ℕ → ℕ → ℕ → ℕ → ℕ → List ℕ
noted w lo hi n k k' m = set (set (set (set (set w (PARENT.at + hi) lo) (AGE.at + hi) n) (FIRST.at + n) k) (SECOND.at + n) k') (WHEN.at + n) m

-- A class: its label, and the tag that leads it.
pub record Named (t : Front) (w : List ℕ) (n : ℕ) (s : Side) : Type 0 where
  pub label : label_of w s.label.0 ≡ s.label.0
  pub low : s.label.0 < t.size
  pub leader : s.leader.0 ≡ lead_of w n s.label.0

-- The join of the classes led by x and y stands in the table. The smaller of the two leads from then on: in the place of its link stands the largest tag of both classes, and in that of its age a number that is no age.
pub record Kept (w w' : List ℕ) (n k k' m x y : ℕ) : Type 0 where
  pub lo : ℕ
  pub hi : ℕ
  pub top : ℕ
  pub weight : ℕ
  pub order : ((x ≤ y) × (lo ≡ x) × (hi ≡ y)) ⊎ ((y < x) × (lo ≡ y) × (hi ≡ x))
  pub over : (parent_of w x ≤ top) × (parent_of w y ≤ top) × ((top ≡ parent_of w x) ⊎ (top ≡ parent_of w y))
  pub heavy : most_tags ≤ weight
  pub stored : w' ≡ set (set (noted w lo hi n k k' m) (PARENT.at + lo) top) (AGE.at + lo) weight

-- It was made: what had one label still has, and the two ends have now.
pub record Joined (t : Front) (w : List ℕ) (n a b : ℕ) (w' : List ℕ) (first : ℕ) : Type 0 where
  pub frame : Within behind_columns w w'
  pub standing : Standing t w' (suc n)
  pub indexed : Indexed t w' first
  pub same : (x y : ℕ) → label_of w x ≡ label_of w y → label_of w' x ≡ label_of w' y
  pub ends : (x y : ℕ) → label_of w x ≡ a → label_of w y ≡ b → label_of w' x ≡ label_of w' y
