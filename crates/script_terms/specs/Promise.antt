-- DEFINITIONS, to be read against document 02, No. 4: "two declared constants follow equal in the job exactly when they are equal in every congruence on the
-- script's terms that holds its equations". Assumes nothing.
use Rattle.std.specs.Prelude.{ℕ, ◌↔◌, List, length}
use Rattle.meaning.specs.Following.{Follows, UpTo}
use Rattle.script_terms.specs.Terms.{Term, constant, Congruence, Command, arities_of, Declared, Holds}
use Rattle.script_terms.specs.Flat.{records_of, items_of}

-- "Equal in every congruence on the script's terms that holds its equations".
abbrev pub Everywhere : (Term → Type 0) → List Command → Term → Term → Type 1
Everywhere In cs s t = (R : Term → Term → Type 0) → Congruence In R → Holds cs R → R s t

-- "Follow equal in the job": by all its records. A declared constant's tag is its number.
abbrev pub FollowInJob : List Command → ℕ → ℕ → Type 0
FollowInJob cs c d = let rs = records_of (items_of cs) in Follows (UpTo rs (length rs)) c d

abbrev pub Promised : (Term → Type 0) → List Command → Type 1
Promised In cs = (c d : ℕ) → Declared (arities_of cs) c 0 → Declared (arities_of cs) d 0 → FollowInJob cs c d ↔ Everywhere In cs (constant c) (constant d)
