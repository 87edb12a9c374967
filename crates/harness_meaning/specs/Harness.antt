-- DEFINITIONS, to be read against document 02, No. 8, "Plain harness sheets": the reason that the harness profile gives. Document 01's clause on the last record is
-- dropped, the rest of its definition stays, and two clauses make the list the only one. Assumes nothing.
use Rattle.std.specs.Prelude.{ℕ, ◌≤◌, ◌<◌, ◌*◌, ◌-◌, ◌≡◌, ◌⊎◌, length}
use mathlib.Core.List.{List, [], ◌∷◌, Memᴰ}
use Rattle.meaning.specs.Following.{Rec, Follows, UpTo, Only, Without}
use Rattle.meaning.specs.Reasons.{Above}
use Rattle.meaning.specs.Totals.{Classes}

-- A list to be compared with: it rises, its records are "among those before the question" (the first R), and they alone make s and t equal. A rising list has no number
-- twice, so these lists are the sets of records that do so.
pub record Shows (rs : List Rec) (R s t : ℕ) (L : List ℕ) : Type 0 where
  pub rising : Above 0 L
  pub stand : (k : ℕ) → Memᴰ k L → k ≤ R
  pub entails : Follows (Only rs L) s t

-- "The smallest by first differing record number": the first list has the smaller number at the first place where the two differ.
pub data Smaller : List ℕ → List ℕ → Type 0 where
  differ : {k m : ℕ} {L M : List ℕ} → k < m → Smaller (k ∷ L) (m ∷ M)
  agree : {k : ℕ} {L M : List ℕ} → Smaller L M → Smaller (k ∷ L) (k ∷ M)

-- The reason for s and t at a question of a plain harness sheet: document 01's points in their order, without the last record's, and then No. 8's own.
pub record Harness (N : ℕ) (rs : List Rec) (R s t : ℕ) (L : List ℕ) : Type 0 where
  -- "the numbers rise strictly and each record stands before the question"
  pub rising : Above 0 L
  pub stand : (k : ℕ) → Memᴰ k L → k ≤ R
  -- "equality of s and t follows from those records alone"
  pub entails : Follows (Only rs L) s t
  -- "if s and t are the same number the list is empty"
  pub empty : s ≡ t → L ≡ []
  -- "none can be spared: without any one of its records, the rest do not make s and t equal"
  pub unspared : (m : ℕ) → Memᴰ m L → Follows (Without rs L m) s t → ⊥
  -- "it has at most 2(N-1) numbers", by No. 13: "at most 2(N-C) numbers, with C the number of classes at its question"
  pub short : (C : ℕ) → Classes N (UpTo rs R) C → length L ≤ 2 * (N - C)
  -- "whose reason has the fewest records possible among those before the question"
  pub fewest : (M : List ℕ) → Shows rs R s t M → length L ≤ length M
  -- "of equally short ones, the smallest by first differing record number"
  pub smallest : (M : List ℕ) → Shows rs R s t M → length M ≡ length L → (M ≡ L) ⊎ Smaller L M
