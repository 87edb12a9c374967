-- Document 01, "The program": fields of a line are parted by one space. The text of a line, byte by byte.
-- Assumes nothing.
use Rattle.std.specs.Prelude.{ℕ, cond, List, [], ◌∷◌, ◌++◌, eqb}
use Rattle.text_line.specs.Digits.{digits}

-- Fields parted by one space, byte 32: each number of a line has the space before it.
unfoldable pub parted : List ℕ → List ℕ
parted [] = []
parted (n ∷ ns) = 32 ∷ (digits n ++ parted ns)

-- A line is a letter and numbers, and byte 10 ends it.
unfoldable pub line : ℕ → List ℕ → List ℕ
line letter ns = letter ∷ (parted ns ++ (10 ∷ []))

-- `S s t l` (ask, same, leader), `D s t l m` (ask, different, both leaders).
unfoldable pub ask_line : ℕ → ℕ → ℕ → ℕ → List ℕ
ask_line s t l m = cond (eqb l m) (line 83 (s ∷ t ∷ l ∷ [])) (line 68 (s ∷ t ∷ l ∷ m ∷ []))
