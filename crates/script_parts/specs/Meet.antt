-- What meeting a part asks and gives. Assumes nothing.
use Rattle.std.specs.Prelude.{ℕ, ◌≤◌, ◌≡◌, List, ◌++◌, map, length, drop}
use Rattle.script_terms.specs.Flat.{Part, applied, record_of, Item, noted}
use Rattle.script_meaning.specs.Reading.{Seen, with_part}
use Rattle.script_terms.proofs.Known.{Known}
use Rattle.script_shelf.specs.Shelf.{number_of, Holding}
use Rattle.script_shelf.specs.declared.Counts.{Counts}

-- The 02 of each part that is new.
abbrev pub new_parts : List Part → List Part → List Item
new_parts l l' = map (λ p. noted (record_of 1001 l' p)) (drop (length l) l')

-- The parts p and q are known and have the numbers a and b; and there is room for one more part.
pub record Meeting (s w : List ℕ) (c : Counts) (t : Seen) (fs : List Item) (p q : Part) (a b : ℕ) : Type 0 where
  pub holding : Holding s w c t fs
  pub left-known : Known 1001 t.parts p
  pub right-known : Known 1001 t.parts q
  pub left_is : a ≡ number_of t.parts p
  pub right_is : b ≡ number_of t.parts q
  pub tags : length t.parts ≤ 1000
  pub records : t.records ≤ 4000
  pub differs : t.differs ≤ 500
  pub checks : t.checks ≤ 1000

pub record Met (s w w' : List ℕ) (c' : Counts) (t : Seen) (fs : List Item) (p q : Part) (number : ℕ) : Type 0 where
  pub size : length w' ≡ length w
  pub holding : Holding s w' c' (with_part (applied p q) t) (fs ++ new_parts t.parts (with_part (applied p q) t).parts)
  pub is : number ≡ number_of (with_part (applied p q) t).parts (applied p q)

pub record Meets (w w' : List ℕ) (c c' : Counts) (a b number : ℕ) : Type 0 where
  pub met : (s : List ℕ) (t : Seen) (fs : List Item) (p q : Part) → Meeting s w c t fs p q a b → Met s w w' c' t fs p q number
