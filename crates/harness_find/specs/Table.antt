-- MACHINERY for the proofs; no meaning rests on it. The search by levels as it stands in the work table. Assumes nothing.
use Rattle.std.specs.Prelude.{ℕ, suc, ◌≤◌, ◌<◌, ◌≡◌, List}
use Rattle.meaning.specs.Joins.{put}
use Rattle.meaning.specs.Limits.{most_tags, most_records}
use Rattle.table.specs.Map.{left_of, right_of, list_in, Within}
use Rattle.table.specs.Places.{LIST, Large, all_of, scratch}
use Rattle.harness_meaning.specs.Search.{Way, climb, During, Levels, State, offer}
use Rattle.harness_meaning.specs.Search as search
use Rattle.harness_table.specs.Levels.{unfound, found_part, lev_in, last_in}

-- Levels and last records together.
abbrev pub state_in : List ℕ → State
state_in w = record { lev = lev_in w; last = last_in w }

-- The levels up to d are done, and some of the next; the records that were tried have their tags below the most.
pub record Trial (w : List ℕ) (d : ℕ) : Type 0 where
  pub before : ℕ
  pub from : ℕ
  pub long : Large w
  pub few : before ≤ most_records
  pub during : During (left_of w) (right_of w) before from d unfound (λ j v. ⊥) (lev_in w) (last_in w)

-- From w to w' record k was tried from u towards v.
pub record Offered (w w' : List ℕ) (d k u v : ℕ) : Type 0 where
  pub kept : Within found_part w w'
  pub state : state_in w' ≡ offer (left_of w) (right_of w) d unfound k u v (state_in w)

-- The first k records have been tried at level d.
pub record Scanned (w : List ℕ) (R s d k : ℕ) : Type 0 where
  pub long : Large w
  pub few : R ≤ most_records
  pub tags : (j : ℕ) → search.Within R j → (left_of w j < most_tags) × (right_of w j < most_tags)
  pub during : During (left_of w) (right_of w) R s d unfound (λ j v. j ≤ k) (lev_in w) (last_in w)

-- Record k + 1 is the next, ..
pub record Trying (w : List ℕ) (d k : ℕ) : Type 0 where
  pub before : ℕ
  pub from : ℕ
  pub scanned : Scanned w before from d k
  pub next : k < before

-- .. and from w to w' it has been tried.
pub record Went (w w' : List ℕ) (d k : ℕ) : Type 0 where
  pub kept : Within found_part w w'
  pub on : (R s : ℕ) → k < R → Scanned w R s d k → Scanned w' R s d (suc k)

-- The levels up to d are done, over records 1 to R.
pub record Done (w : List ℕ) (R s d : ℕ) : Type 0 where
  pub long : Large w
  pub few : R ≤ most_records
  pub tags : (j : ℕ) → search.Within R j → (left_of w j < most_tags) × (right_of w j < most_tags)
  pub levels : Levels (left_of w) (right_of w) R s d unfound (lev_in w) (last_in w)

-- One more is wanted, ..
pub record Rising (w : List ℕ) (R d : ℕ) : Type 0 where
  pub from : ℕ
  pub done : Done w R from d
  pub room : suc d < unfound

-- .. and from w to w' it was done.
pub record Risen (w w' : List ℕ) (R d : ℕ) : Type 0 where
  pub kept : Within found_part w w'
  pub on : (s : ℕ) → Done w R s d → Done w' R s (suc d)

-- From w to w' the first n tags lost their level.
pub record Blank (w w' : List ℕ) (n : ℕ) : Type 0 where
  pub kept : Within found_part w w'
  pub none : (x : ℕ) → x < n → lev_in w' x ≡ unfound

-- From w to w' all tags lost their level, and s got level 0.
pub record Begins (w w' : List ℕ) (s : ℕ) : Type 0 where
  pub kept : Within found_part w w'
  pub lev : lev_in w' ≡ put s 0 (λ x. unfound)

-- What the search needs: records up to R, and a way from s to t of fewer of them than tags can be.
pub record Sought (w : List ℕ) (R s t : ℕ) : Type 0 where
  pub long : Large w
  pub few : R ≤ most_records
  pub from : s < most_tags
  pub to : t < most_tags
  pub tags : (j : ℕ) → search.Within R j → (left_of w j < most_tags) × (right_of w j < most_tags)
  pub steps : ℕ
  pub list : List ℕ
  pub near : steps < most_tags
  pub way : Way (left_of w) (right_of w) (search.Within R) s t list steps

-- The levels up to some d are done, and t has level n among them.
pub record Found (w : List ℕ) (R s t n : ℕ) : Type 0 where
  pub top : ℕ
  pub done : Done w R s top
  pub low : n ≤ top
  pub level : lev_in w t ≡ n
  pub deep : n < most_tags

-- From w to w' the search came to t, at level n.
pub record Searched (w w' : List ℕ) (R s t n : ℕ) : Type 0 where
  pub kept : Within scratch w w'
  pub found : Found w' R s t n

-- Where t has level n, ..
pub record Traceable (w : List ℕ) (t n : ℕ) : Type 0 where
  pub before : ℕ
  pub from : ℕ
  pub found : Found w before from t n

-- .. the records of the n steps back from t came into the list, from w to w'.
pub record Traced (w w' : List ℕ) (t n : ℕ) : Type 0 where
  pub kept : Within (all_of LIST) w w'
  pub list : list_in n w' ≡ climb (left_of w) (right_of w) (last_in w) n t
