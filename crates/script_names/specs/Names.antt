-- Symbols in the table by their names, which stand in the script. Assumes nothing.
use Rattle.std.specs.Prelude.{ℕ, ◌+◌, ◌≤◌, ◌<◌, ◌≡◌, Bool, true, false, List, length, get_or}
use Rattle.std.proofs.Math.Seq.{slice}
use Rattle.script_terms.specs.Flat.{Item}
use Rattle.script_meaning.specs.Tokens.{same_bytes}
use Rattle.script_meaning.specs.Reading.{Symbol, Seen, with_symbol, find, is_there, takes_of}
use Rattle.script_shelf.specs.Chain.{last_of}
use Rattle.script_shelf.specs.Columns.{mark_in}
use Rattle.script_shelf.specs.Keys.{Chain}
use Rattle.script_shelf.specs.Shelf.{sum, Holding}
use Rattle.script_shelf.specs.declared.Counts.{Counts}

unfoldable pub key_in : List ℕ → List ℕ → ℕ → ℕ
key_in s w k = sum (slice (get_or w (0 + k) 0) (get_or w (1001 + k) 0) s)

unfoldable pub fitting : List ℕ → List ℕ → ℕ → ℕ → ℕ → Bool
fitting s w from to k = same_bytes (slice (get_or w (0 + k) 0) (get_or w (1001 + k) 0) s) (slice from to s)

-- One more than the last of n symbols with the name, or 0.
unfoldable pub name_in : List ℕ → List ℕ → ℕ → ℕ → ℕ → ℕ
name_in s w from to n = last_of (fitting s w from to) n

abbrev pub Inside : List ℕ → List ℕ → ℕ → Type 0
Inside s w n = (k : ℕ) → k < n → (get_or w (0 + k) 0 ≤ get_or w (1001 + k) 0) × (get_or w (1001 + k) 0 ≤ length s)

pub record Shelved (s w : List ℕ) (n from to head : ℕ) : Type 0 where
  pub long : 32768 ≤ length w
  pub few : n ≤ 1001
  pub order : from ≤ to
  pub within : to ≤ length s
  pub inside : Inside s w n
  pub chain : Chain (key_in s w) (λ k. get_or w (3003 + k) 0) n (sum (slice from to s)) head

pub record Ready (s w : List ℕ) (c : Counts) (from to : ℕ) : Type 0 where
  pub long : 32768 ≤ length w
  pub few : c.symbols ≤ 1001
  pub order : from ≤ to
  pub within : to ≤ length s
  pub inside : Inside s w c.symbols
  pub chain : Chain (key_in s w) (λ k. get_or w (3003 + k) 0) c.symbols (sum (slice from to s)) (get_or w (4004 + sum (slice from to s)) 0)

-- What is said of a name is what the definition says of it.
pub record Said (l : List Symbol) (x : List ℕ) (there : Bool) (number takes : ℕ) : Type 0 where
  pub there-is : there ≡ is_there l x
  pub number_is : there ≡ true → number ≡ find l x
  pub takes-is : there ≡ true → takes ≡ takes_of l x

pub record Looks (s w : List ℕ) (c : Counts) (from to : ℕ) (there : Bool) (number takes : ℕ) : Type 0 where
  pub looked : (t : Seen) (fs : List Item) → Holding s w c t fs → Said t.symbols (slice from to s) there number takes

pub record Room (s w : List ℕ) (c : Counts) (from to : ℕ) : Type 0 where
  pub long : 32768 ≤ length w
  pub few : c.symbols ≤ 1000
  pub order : from ≤ to
  pub within : to ≤ length s
  pub short : length s ≤ 60000

pub record Marked (w w' : List ℕ) (c c' : Counts) (from to takes key head : ℕ) : Type 0 where
  pub table : w' ≡ mark_in w c.symbols from to takes key head
  pub symbols : c'.symbols ≡ c.symbols + 1
  pub parts : c'.parts ≡ c.parts
  pub records : c'.records ≡ c.records
  pub differs : c'.differs ≡ c.differs
  pub checks : c'.checks ≡ c.checks
  pub fields : c'.fields ≡ c.fields

pub record Declared (s w w' : List ℕ) (c' : Counts) (t : Seen) (fs : List Item) (from to takes : ℕ) : Type 0 where
  pub size : length w' ≡ length w
  pub holding : Holding s w' c' (with_symbol (record { name = slice from to s; takes = takes }) t) fs

-- A name that is not there yet is declared.
pub record Declares (s w w' : List ℕ) (c c' : Counts) (from to takes : ℕ) : Type 0 where
  pub declared : (t : Seen) (fs : List Item) → Holding s w c t fs → is_there t.symbols (slice from to s) ≡ false → Declared s w w' c' t fs from to takes
