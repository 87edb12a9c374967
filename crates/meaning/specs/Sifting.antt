-- DEFINITIONS, to be read against document 02, No. 6: the records that are left when all idle ones are left out. Assumes nothing.
use Rattle.std.specs.Prelude.{ℕ, suc, ◌≡◌, List, [], ◌∷◌, ◌++◌, get_or}
use Rattle.meaning.specs.Following.{Rec, eq}
use Rattle.meaning.specs.Totals.{Idle}

-- Record number n is not idle.
abbrev pub Busy : List Rec → ℕ → Type 0
Busy rs n = (k : ℕ) → n ≡ suc k → Idle rs k → ⊥

-- "Leaving out all idle records": of the records 1 to k of rs, qs are those that are not idle, in their order.
pub data Sifted (rs : List Rec) : ℕ → List Rec → Type 0 where
  start : Sifted rs 0 []
  left_out : {k : ℕ} {qs : List Rec} → Idle rs k → Sifted rs k qs → Sifted rs (suc k) qs
  stays : {k : ℕ} {qs : List Rec} → (Idle rs k → ⊥) → Sifted rs k qs → Sifted rs (suc k) (qs ++ (get_or rs k (eq 0 0) ∷ []))
