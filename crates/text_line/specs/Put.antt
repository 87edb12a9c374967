-- Where a text stands once it is put into a room of bytes.
-- Assumes nothing.
use Rattle.std.specs.Prelude.{ℕ, ◌+◌, min, ◌≡◌, List, ◌++◌, length}
use Rattle.std.proofs.lemmas.List.Edits.{sets}

-- A text was put into the room from a place on, as far as the room goes, and the next byte stands behind it. One place past the
-- room's end stands for every place further on: then the text did not fit.
pub record Put (text room : List ℕ) (at : ℕ) (room' : List ℕ) (next : ℕ) : Type 0 where
  pub bytes : room' ≡ sets room at text
  pub place : next ≡ min (at + length text) (length room + 1)

-- Part of a text is put, and the rest is still to come.
pub record Half (text rest room : List ℕ) (at : ℕ) (room' : List ℕ) (next : ℕ) : Type 0 where
  pub done : List ℕ
  pub put : Put done room at room' next
  pub left : done ++ rest ≡ text
