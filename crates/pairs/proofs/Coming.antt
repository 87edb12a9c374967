-- The newest join between two tags was made at the first record that makes them equal; so the number of that record tells at every moment whether they are.
-- Assumes nothing.
use Prim.Native.Nat.{ℕ, ◌+◌, ◌≤◌, ◌<◌}
use native.Mathlib.Omega.{arith}
use native.Mathlib.Decide.{dec_le}
use mathlib.Core.Path.{◌≡◌, refl}
use mathlib.Core.List.{List}
use lib.ListN.{length}
use Rattle.meaning.specs.Following.{Rec, Follows, same, UpTo}
use Rattle.meaning.specs.Limits.{most_tags}
use Rattle.meaning.specs.Reasons.{FirstAt}
use Rattle.meaning.proofs.Close.{more_of}
use Rattle.table.specs.Map.{when_of, records_in}
use Rattle.table.specs.Past.{Past}
use Rattle.moment.specs.Meeting.{Met}
use Rattle.moment.proofs.Moments.{met-join, met-first, met-later, met-never}
use Rattle.pairs.specs.Came.{Came}

-- The first k.
module _ {N len n : ℕ} {w : List ℕ} (P : Past N len w n) (R s t : ℕ) (l : R ≤ len) where
  pub came_same : s ≡ t → Came (records_in len w) R s t 0 × (0 < 65536)
  came_same e = (rw e (record { then = λ _. record { then = same; before = λ n m. absurd (omega arith) }; never = λ m. absurd (omega arith) }), omega arith)

  pub came-never : Met w s t most_tags → Came (records_in len w) R s t (R + 1) × (R + 1 < 65536)
  came-never M = (record { then = λ m. absurd (omega arith); never = λ m. met-never P M R l refl }, omega (arith, P.loaded.most))

  pub came-met : (b k : ℕ) → Met w s t b × (b < most_tags) → k ≡ when_of w b → Came (records_in len w) R s t k × (k < 65536)
  came-met b k M e =
      let j = met-join P M.0 M.1 in
      (rw e (record { then = λ m. met-first P M.0 j; never = met-later P M.0 R l j }), omega (arith, e, (P.made b j).1, P.loaded.most))

-- What the first k of all records tells of a moment.
module _ {rs : List Rec} {s t m : ℕ} (c : Came rs (length rs) s t m) (R : ℕ) (l : R ≤ length rs) where
  pub came-equal : m ≤ R → Follows (UpTo rs R) s t
  came-equal h = more_of (λ k i. omega arith) (c.then (omega arith)).then

  pub came-apart : R < m → Follows (UpTo rs R) s t → ⊥
  came-apart h f = go (dec_le m (length rs))
    where
      go : Dec (m ≤ length rs) → ⊥
      go (yes k) = (c.then k).before R h f
      go (no k) = c.never (omega arith) (more_of (λ n i. omega arith) f)

  pub came-first : m ≤ R → FirstAt rs s t m
  came-first h = c.then (omega arith)
