-- Parts in the table by the numbers of their halves. Assumes nothing.
use Rattle.std.specs.Prelude.{ℕ, ◌+◌, ◌*◌, ◌%◌, ◌≤◌, ◌≡◌, Bool, ◌&&◌, List, eqb, length, get_or}
use Rattle.script_shelf.specs.Chain.{last_of}
use Rattle.script_shelf.specs.Columns.{note_in, file_in}
use Rattle.script_shelf.specs.Keys.{Chain}
use Rattle.script_shelf.specs.declared.Counts.{Counts}

abbrev pub left : List ℕ → ℕ → ℕ
left w k = get_or w (4513 + k) 0

abbrev pub right : List ℕ → ℕ → ℕ
right w k = get_or w (5514 + k) 0

unfoldable pub key_of : ℕ → ℕ → ℕ
key_of a b = (31 * a + b) % 509

unfoldable pub key_in : List ℕ → ℕ → ℕ
key_in w k = key_of (left w k) (right w k)

unfoldable pub fitting : List ℕ → ℕ → ℕ → ℕ → Bool
fitting w a b k = eqb (left w k) a && eqb (right w k) b

-- One more than the last of n parts with these halves, or 0.
unfoldable pub pair_in : List ℕ → ℕ → ℕ → ℕ → ℕ
pair_in w a b n = last_of (fitting w a b) n

pub record Shelved (w : List ℕ) (n a b head : ℕ) : Type 0 where
  pub long : 32768 ≤ length w
  pub few : n ≤ 1001
  pub chain : Chain (key_in w) (λ k. get_or w (6515 + k) 0) n (key_of a b) head

pub record Ready (w : List ℕ) (c : Counts) (a b : ℕ) : Type 0 where
  pub long : 32768 ≤ length w
  pub parts : c.parts ≤ 1000
  pub fields : c.fields ≤ 5500
  pub records : c.records ≤ 4000
  pub chain : Chain (key_in w) (λ k. get_or w (6515 + k) 0) c.parts (key_of a b) (get_or w (7516 + key_of a b) 0)

pub record Put (w w' : List ℕ) (c c' : Counts) (a b key head : ℕ) : Type 0 where
  pub table : w' ≡ note_in (file_in w c.parts a b key head) c.fields 2 a b (1001 + c.parts)
  pub symbols : c'.symbols ≡ c.symbols
  pub parts : c'.parts ≡ c.parts + 1
  pub records : c'.records ≡ c.records + 1
  pub differs : c'.differs ≡ c.differs
  pub checks : c'.checks ≡ c.checks
  pub fields : c'.fields ≡ c.fields + 1
