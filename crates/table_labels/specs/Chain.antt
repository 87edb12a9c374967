-- A hash table of the list's places by a key, with a chain in each of B buckets that goes to lower places only.
-- A link is 0, or one more than a place. Assumes nothing.
use Rattle.std.specs.Prelude.{ℕ, zero, suc, ◌%◌, Bool, Option, Some, None, cond, eqb}

-- The first link of the chain from p whose place is a hit, or 0.
abbrev pub seek_in : (ℕ → ℕ) → (ℕ → Bool) → ℕ → ℕ → ℕ
seek_in nx hit zero p = 0
seek_in nx hit (suc f) zero = 0
seek_in nx hit (suc f) (suc r) = cond (hit r) (suc r) (seek_in nx hit f (nx r))

unfoldable pub seek_to : (ℕ → ℕ) → (ℕ → Bool) → ℕ → ℕ
seek_to nx hit p = seek_in nx hit p p

abbrev pub hits : (ℕ → ℕ) → ℕ → ℕ → Bool
hits key x r = eqb (key r) x

-- What the table has for the key x.
unfoldable pub look : ℕ → (ℕ → ℕ) → (ℕ → ℕ) → (ℕ → ℕ) → ℕ → ℕ
look B key hd nx x = seek_to nx (hits key x) (hd (x % B))

-- A place that was found, or none, as a link.
abbrev pub as_link : Option ℕ → ℕ
as_link (Some j) = suc j
as_link None = 0
