-- Taking out the spare records: what stays makes s and t equal, and none of it can be spared. Document 01, "Reasons".
-- Assumes nothing.
use Rattle.std.specs.Prelude.{ℕ, suc, ◌+◌, ◌≤◌, ◌<◌, ◌≡◌, ◌≢◌, ◌⊎◌, set}
use mathlib.Core.List.{List, Memᴰ}
use Rattle.meaning.specs.Following.{Follows, Only, Without}
use Rattle.table.specs.Places.{LIST, all_of, front_part, most_waiting, scratch}
use Rattle.table.specs.Map.{list_of, list_in, records_in, Loaded, Within, place_of}
use Rattle.reason_list.specs.Listing.{waiting_in}

-- From w to w' the `count` numbers of the list from `from` on were written from `to` on as well, and nothing else.
pub record Copied (w w' : List ℕ) (from to count : ℕ) : Type 0 where
  pub kept : Within (all_of LIST) w w'
  pub same : (x : ℕ) → (x < to) ⊎ (to + count ≤ x) → list_of w' x ≡ list_of w x
  pub copy : (j : ℕ) → j < count → list_of w' (to + j) ≡ list_of w (from + j)

-- From w to w' the number at place i came to place `kept`, unless it was left out: then there are r.
pub record Moved (w w' : List ℕ) (i kept r : ℕ) : Type 0 where
  pub none : place_of w i ≡ 0 → (r ≡ kept) × (w' ≡ w)
  pub some : place_of w i ≢ 0 → (r ≡ suc kept) × (w' ≡ set w (LIST.at + kept) (place_of w i))

-- From w to w' those of the first n places that were not left out came to the front: `kept` of them.
pub record Together (w w' : List ℕ) (n kept : ℕ) : Type 0 where
  pub kept_in : Within front_part w w'
  pub few : kept ≤ n
  pub to : (j : ℕ) → j < n → place_of w j ≢ 0 → Memᴰ (place_of w j) (list_in kept w')
  pub from : (k : ℕ) → Memᴰ k (list_in kept w') → (j : ℕ) × (j < n) × (place_of w j ≡ k) × (k ≢ 0)

-- From w to w' the spare ones of all n that waited were taken out: the first `kept` of the list are some of them, they make s and t equal, and none of
-- them can be spared.
pub record Pruned (N len s t : ℕ) (w w' : List ℕ) (n kept : ℕ) : Type 0 where
  pub kept_in : Within scratch w w'
  pub few : kept ≤ n
  pub fewer : (k : ℕ) → Memᴰ k (list_in kept w') → Memᴰ k (waiting_in n w)
  pub entails : Follows (Only (records_in len w') (list_in kept w')) s t
  pub unspared : (m : ℕ) → Memᴰ m (list_in kept w') → Follows (Without (records_in len w') (list_in kept w') m) s t → ⊥

-- What waits at the start.
pub record Followed (N len s t : ℕ) (w : List ℕ) (n : ℕ) : Type 0 where
  pub loaded : Loaded N len w
  pub s-tag : s < N
  pub t-tag : t < N
  pub short : n ≤ most_waiting
  pub named : (k : ℕ) → Memᴰ k (waiting_in n w) → (1 ≤ k) × (k ≤ len)
  pub entails : Follows (Only (records_in len w) (waiting_in n w)) s t
