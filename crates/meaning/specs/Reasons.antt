-- DEFINITIONS, to be read against document 01, "Reasons": what a list of record numbers must be to be a reason.
-- Assumes nothing.
use Rattle.std.specs.Prelude.{ℕ, ◌≤◌, ◌<◌, ◌*◌, ◌-◌, ◌≡◌, ◌≢◌, length}
use mathlib.Core.List.{List, [], ◌∷◌, Memᴰ}
use Rattle.meaning.specs.Following.{Rec, Follows, UpTo, Only, Without}
use Rattle.meaning.specs.Totals.{Classes}

-- "The numbers rise strictly", and the first of them is above m. With m = 0 every number is a record's.
abbrev pub Above : ℕ → List ℕ → Type 0
Above m [] = Unit {0}
Above m (k ∷ L) = (m < k) × Above k L

-- "Its last number"; m for the list that has none.
abbrev pub last_of : ℕ → List ℕ → ℕ
last_of m [] = m
last_of m (k ∷ L) = last_of k L

-- "The first k such that equality follows from records 1 to k": it follows then, and for no smaller number before.
pub record FirstAt (rs : List Rec) (s t k : ℕ) : Type 0 where
  pub then : Follows (UpTo rs k) s t
  pub before : (n : ℕ) → n < k → Follows (UpTo rs n) s t → ⊥

-- "A reason for s and t at a question is a list of record numbers such that" the five points hold, here in their order. N is
-- the number of tags, rs are the job's records, and the first R of them stand before the question.
pub record Reason (N : ℕ) (rs : List Rec) (R s t : ℕ) (L : List ℕ) : Type 0 where
  -- 1. "the numbers rise strictly and each record stands before the question"
  pub rising : Above 0 L
  pub stand : (k : ℕ) → Memᴰ k L → k ≤ R
  -- 2. "equality of s and t follows from those records alone"
  pub entails : Follows (Only rs L) s t
  -- 3. "if s and t are the same number the list is empty; otherwise its last number is the first k such that equality
  --    follows from records 1 to k"
  pub empty : s ≡ t → L ≡ []
  pub last : s ≢ t → FirstAt rs s t (last_of 0 L)
  -- 4. "none can be spared: without any one of its records, the rest do not make s and t equal"
  pub unspared : (m : ℕ) → Memᴰ m L → Follows (Without rs L m) s t → ⊥
  -- 5. "it has at most 2(N-1) numbers", by document 02, No. 13: "at most 2(N-C) numbers, with C the number of classes at its question"
  pub short : (C : ℕ) → Classes N (UpTo rs R) C → length L ≤ 2 * (N - C)
