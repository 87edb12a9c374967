-- Document 02, No. 1: "the earliest 05 before it whose two tags follow equal", and that there is none.
-- Assumes nothing.
use Rattle.std.specs.Prelude.{ℕ, ◌-◌, ◌≤◌, ◌<◌, List, get_or}
use Rattle.meaning.specs.Following.{Rec, Follows, UpTo}
use Rattle.meaning.specs.Reasons.{Reason}
use Rattle.job_field.specs.Items.{Pair, Matter, Moment}

-- "Numbered from 1 apart from records": number k of the job's pairs that must differ. (Who asks for it knows that there are as many.)
abbrev pub pair_no : List Pair → ℕ → Pair
pair_no ps k = get_or ps (k - 1) (record { first = 0; second = 0 })

-- A pair is broken where its two tags follow equal by the first R records, those before the question. So one of a tag with itself is
-- broken at once.
abbrev pub Broken : List Rec → ℕ → Pair → Type 0
Broken rs R p = Follows (UpTo rs R) p.first p.second

-- Number k is the earliest that is broken of the D pairs before the question.
pub record Earliest (rs : List Rec) (R : ℕ) (ps : List Pair) (D k : ℕ) : Type 0 where
  pub number : 1 ≤ k
  pub before : k ≤ D
  pub broken : Broken rs R (pair_no ps k)
  pub first : (j : ℕ) → 1 ≤ j → j < k → Broken rs R (pair_no ps j) → ⊥

-- None of them is broken.
abbrev pub Unbroken : List Rec → ℕ → List Pair → ℕ → Type 0
Unbroken rs R ps D = (j : ℕ) → 1 ≤ j → j ≤ D → Broken rs R (pair_no ps j) → ⊥

-- "86 with its number and a reason": a list is a reason why the tags of pair number k are equal at a moment. Demand 3 covers it.
abbrev pub PairReason : Matter → Moment → ℕ → List ℕ → Type 0
PairReason M b k L = Reason M.head.size M.records b.records (pair_no M.pairs k).first (pair_no M.pairs k).second L
