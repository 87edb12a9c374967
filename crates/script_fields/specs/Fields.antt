-- What the stores of the commands keep. Assumes nothing.
use Rattle.std.specs.Prelude.{ℕ, ◌+◌, ◌≡◌, Bool, ◌&&◌, List, [], ◌∷◌, ◌++◌, leb, length}
use Rattle.script_terms.specs.Flat.{Item}
use Rattle.script_meaning.specs.Reading.{Seen, nothing}
use Rattle.script_shelf.specs.Shelf.{Holding}
use Rattle.script_shelf.specs.declared.Counts.{Counts}

pub record Begun (w w' : List ℕ) (c : Counts) : Type 0 where
  pub size : length w' ≡ length w
  pub holding : (s : List ℕ) → Holding s w' c nothing []

pub record Noted (s w w' : List ℕ) (c' : Counts) (t' : Seen) (fs' : List Item) : Type 0 where
  pub size : length w' ≡ length w
  pub holding : Holding s w' c' t' fs'

-- The field x is noted, and what has been seen grows so.
pub record Notes (w w' : List ℕ) (c c' : Counts) (x : Item) (grown : Seen → Seen) : Type 0 where
  pub noted : (s : List ℕ) (t : Seen) (fs : List Item) → Holding s w c t fs → Noted s w w' c' (grown t) (fs ++ x ∷ [])

-- `fits` by the code's counts.
unfoldable pub fitting : Counts → Bool
fitting c = leb (c.symbols + c.parts) 1000 && leb c.records 4000 && leb c.differs 500 && leb c.checks 1000
