-- The records of the marked joins, in the order in which the joins were taken. They stand behind the first 2,000 places of the list, and wait there to
-- be tried. Document 01, "Reasons": a list followed this way may still hold a spare record.
-- Assumes nothing.
use Rattle.std.specs.Prelude.{ℕ, ◌+◌, ◌*◌, ◌≤◌, ◌≡◌, ◌↔◌, false}
use mathlib.Core.List.{List, [], ◌∷◌, ◌++◌, Memᴰ}
use Rattle.meaning.specs.Joins.{numbers_of, keep, used, tick, count, put}
use Rattle.meaning.specs.Limits.{most_records}
use Rattle.table.specs.Map.{gather, list_of, head_of, join_at, Within}
use Rattle.table.specs.Places.{LIST, SAVED, Part, from_to, list_part, waiting_at}
use Rattle.moment.specs.Holding.{Holds, marked}

-- The first n numbers that wait.
abbrev pub waiting_in : ℕ → List ℕ → List ℕ
waiting_in n w = gather (λ j. list_of w (waiting_at + j)) n

-- The notes recall what waits: a record number that is noted stands among the first n.
pub record Recalled (w : List ℕ) (n : ℕ) : Type 0 where
  pub waits : (k : ℕ) → k ≤ most_records → head_of w k ≡ 1 → Memᴰ k (waiting_in n w)

-- From w to w' the number k came behind the n that wait, unless it waits already: now there are r.
pub record Added (w w' : List ℕ) (k n r : ℕ) : Type 0 where
  pub kept : Within list_part w w'
  pub most : r ≤ n + 1
  pub same : (x : ℕ) → Memᴰ x (waiting_in n w ++ (k ∷ [])) ↔ Memᴰ x (waiting_in r w')
  pub recalled : Recalled w' r

-- From w to w' the records of the join of age a came behind the n that wait: now there are r.
pub record Appended (w w' : List ℕ) (a n r : ℕ) : Type 0 where
  pub kept : Within list_part w w'
  pub most : r ≤ n + 2
  pub same : (x : ℕ) → Memᴰ x (waiting_in n w ++ numbers_of (join_at w a).why) ↔ Memᴰ x (waiting_in r w')
  pub recalled : Recalled w' r

-- What listing writes: the list, the notes, and the marks, which are taken off one by one.
abbrev pub drawn_part : Part
drawn_part = from_to LIST.at SAVED.at

-- From w to w' the records of the join of age a came behind the n that wait, if it was marked: now there are r, and it is marked no longer.
pub record Drawn (w w' : List ℕ) (a n r : ℕ) : Type 0 where
  pub kept : Within drawn_part w w'
  pub marks : marked w' ≡ put a false (marked w)
  pub most : r ≤ n + 2 * tick (marked w a) 0
  pub same : (x : ℕ) → Memᴰ x (waiting_in n w ++ keep (marked w a) (numbers_of (join_at w a).why)) ↔ Memᴰ x (waiting_in r w')
  pub recalled : Recalled w' r

-- From w to w' some of the joins older than `limit` that were marked were listed, and their n records wait; the others are marked still.
pub record Gathering (w w' : List ℕ) (limit n : ℕ) : Type 0 where
  pub kept : Within drawn_part w w'
  pub short : n + 2 * count (marked w') limit ≤ 2 * limit
  pub same : (k : ℕ) → Memᴰ k (waiting_in n w' ++ used (join_at w) (marked w') limit) ↔ Memᴰ k (used (join_at w) (marked w) limit)
  pub recalled : Recalled w' n

-- The same, whatever was listed before.
pub record Further (w w' : List ℕ) (limit n r : ℕ) : Type 0 where
  pub kept : Within drawn_part w w'
  pub more : (w₀ : List ℕ) → Gathering w₀ w limit n → Gathering w₀ w' limit r

pub record Midway (w : List ℕ) (limit n : ℕ) : Type 0 where
  pub holds : Holds w limit
  pub w₀ : List ℕ
  pub gathering : Gathering w₀ w limit n

-- From w to w' the records of the marked joins older than `limit` were listed, and no others: n of them.
pub record Gathered (w w' : List ℕ) (limit n : ℕ) : Type 0 where
  pub kept : Within drawn_part w w'
  pub short : n ≤ 2 * limit
  pub same : (k : ℕ) → Memᴰ k (used (join_at w) (marked w) limit) ↔ Memᴰ k (waiting_in n w')
