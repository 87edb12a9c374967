-- MACHINERY for the proofs; no meaning rests on it. Going through a list once and taking a record out wherever the rest still entails, as document 01,
-- "Reasons", has it: "A list followed this way may still hold a spare record, which is then taken out". Assumes nothing.
use Rattle.std.specs.Prelude.{ℕ, ◌<◌, ◌≢◌, Bool, cond, List, [], ◌∷◌, ◌++◌}
use Rattle.meaning.specs.Following.{Rec, Follows, Those}

-- The records with numbers in X make s and t equal, and none of them with a number below i can be spared.
pub record Trimmed (rs : List Rec) (s t : ℕ) (X : ℕ → Type 0) (i : ℕ) : Type 0 where
  pub entails : Follows (Those rs X) s t
  pub unspared : (m : ℕ) → m < i → X m → Follows (Those rs (λ n. X n × (n ≢ m))) s t → ⊥

-- Trimming on a list, in its order and by a test: kept is what has been gone through and stays.
abbrev pub trim : (List ℕ → Bool) → List ℕ → List ℕ → List ℕ
trim test kept [] = kept
trim test kept (k ∷ rest) = cond (test (kept ++ rest)) (trim test kept rest) (trim test (kept ++ (k ∷ [])) rest)
