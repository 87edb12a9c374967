-- What the closure leaves in the table: the joins it made, in a form that answers for the moment after each record.
-- Assumes nothing.
use Rattle.std.specs.Prelude.{ℕ, ◌≤◌, ◌<◌, List, leb}
use Rattle.meaning.specs.Joins.{Justified, count}
use Rattle.meaning.specs.Forest.{root, History}
use Rattle.meaning.proofs.Exact.{Settled}
use Rattle.meaning.specs.Limits.{most_tags}
use Rattle.table.specs.Map.{parent_of, age_of, when_of, join_at, records_in, Loaded}

-- How many of the n joins had been made once record k was in.
abbrev pub age_by : List ℕ → ℕ → ℕ → ℕ
age_by w n k = count (λ a. leb (when_of w a) k) n

-- The leader of x after record k.
abbrev pub leader_after : List ℕ → ℕ → ℕ → ℕ → ℕ
leader_after w n k x = root (parent_of w) (age_of w) (age_by w n k) x

-- Of the records 1 to len on N tags, the table holds all n joins: each rests on older ones, the forest of links knows the classes
-- after each join, joins stand in the order of the records that made them, and after each record k the joins
-- made by then decide what follows from records 1 to k.
pub record Past (N len : ℕ) (w : List ℕ) (n : ℕ) : Type 0 where
  pub loaded : Loaded N len w
  pub low : n < N
  pub history : History (join_at w) n (parent_of w) (age_of w) most_tags
  pub justified : Justified (records_in len w) (join_at w) n
  pub made : (a : ℕ) → a < n → (1 ≤ when_of w a) × (when_of w a ≤ len)
  pub order : (a b : ℕ) → a ≤ b → b < n → when_of w a ≤ when_of w b
  pub moments : (k : ℕ) → k ≤ len → Settled (records_in len w) (λ m. m ≤ k) (join_at w) (age_by w n k) (leader_after w n k)
