-- The work table while a script is read, and what it holds of what has been read. Assumes nothing.
use Rattle.std.specs.Prelude.{ℕ, ◌+◌, ◌*◌, ◌%◌, ◌≤◌, ◌<◌, ◌≡◌, List, [], ◌∷◌, map, length, get_or}
use Rattle.std.proofs.Math.Seq.{slice}
use Rattle.meaning.specs.Following.{eq, app}
use Rattle.script_terms.specs.Flat.{Part, symbol, applied, place, tag_of, Item, noted, differing, checking}
use Rattle.script_meaning.specs.Reading.{Symbol, Seen, find}
use Rattle.script_terms.proofs.Known.{Known}
use Rattle.script_shelf.specs.Columns.{Laid}
use Rattle.script_shelf.specs.Keys.{links, heads}
use Rattle.script_shelf.specs.declared.Counts.{Counts}

-- A declared symbol as it is kept: where its name begins in the script and the place behind it, its number of arguments.
pub record Mark : Type 0 where
  pub from : ℕ
  pub to : ℕ
  pub takes : ℕ

abbrev pub symbol_in : List ℕ → Mark → Symbol
symbol_in s m = record { name = slice m.from m.to s; takes = m.takes }

abbrev pub blank : Symbol
blank = record { name = []; takes = 0 }

-- Each name stands in the list once.
abbrev pub Once : List Symbol → Type 0
Once l = (i : ℕ) → i < length l → find l (get_or l i blank).name ≡ i

abbrev pub sum : List ℕ → ℕ
sum [] = 0
sum (b ∷ l) = (b + 31 * sum l) % 509

unfoldable pub name_key : List ℕ → Mark → ℕ
name_key s m = sum (slice m.from m.to s)

-- A part as it is kept: the numbers of its halves. A compound part's number is 1,001 and more while a script is read.
pub record Halves : Type 0 where
  pub left : ℕ
  pub right : ℕ

abbrev pub left_half : Part → Part
left_half (symbol f) = symbol f
left_half (applied p q) = p

abbrev pub right_half : Part → Part
right_half (symbol f) = symbol f
right_half (applied p q) = q

abbrev pub number_of : List Part → Part → ℕ
number_of l p = tag_of 1001 l p

unfoldable pub halves_of : List Part → List Halves
halves_of l = map (λ p. record { left = number_of l (left_half p); right = number_of l (right_half p) }) l

unfoldable pub pair_key : Halves → ℕ
pair_key h = (31 * h.left + h.right) % 509

-- A field as it is kept: its kind and its numbers, with noughts for those that it has not.
abbrev pub kind_of : Item → ℕ
kind_of (noted (eq a b)) = 1
kind_of (noted (app a b c)) = 2
kind_of (differing a b) = 5
kind_of checking = 6

abbrev pub first_of : Item → ℕ
first_of (noted (eq a b)) = a
first_of (noted (app a b c)) = a
first_of (differing a b) = a
first_of checking = 0

abbrev pub second_of : Item → ℕ
second_of (noted (eq a b)) = b
second_of (noted (app a b c)) = b
second_of (differing a b) = b
second_of checking = 0

abbrev pub third_of : Item → ℕ
third_of (noted (eq a b)) = 0
third_of (noted (app a b c)) = c
third_of (differing a b) = 0
third_of checking = 0

-- All columns, as lists.
abbrev pub columns : List ℕ → List Mark → List Halves → List Item → List (List ℕ)
columns s ms hs fs = map (λ m. m.from) ms ∷ map (λ m. m.to) ms ∷ map (λ m. m.takes) ms ∷ links (map (name_key s) ms) ∷ heads (map (name_key s) ms)
    ∷ map (λ h. h.left) hs ∷ map (λ h. h.right) hs ∷ links (map pair_key hs) ∷ heads (map pair_key hs)
    ∷ map kind_of fs ∷ map first_of fs ∷ map second_of fs ∷ map third_of fs ∷ []

-- Each part of the list is compound, stands there alone, and its halves are known.
pub record Stand (l : List Part) (i : ℕ) : Type 0 where
  pub left : Part
  pub right : Part
  pub is : get_or l i (symbol 0) ≡ applied left right
  pub once : place l (applied left right) ≡ i
  pub left-known : Known 1001 l left
  pub right-known : Known 1001 l right

abbrev pub Standing : List Part → Type 0
Standing l = (i : ℕ) → i < length l → Stand l i

-- The code's counts are those of what has been seen, and of the fields.
pub record Counted (c : Counts) (t : Seen) (fs : List Item) : Type 0 where
  pub symbols : c.symbols ≡ length t.symbols
  pub parts : c.parts ≡ length t.parts
  pub records : c.records ≡ t.records
  pub differs : c.differs ≡ t.differs
  pub checks : c.checks ≡ t.checks
  pub fields : c.fields ≡ length fs
  pub sum : length fs ≡ t.records + t.differs + t.checks

-- The table holds what has been seen of the script s, and the fields that came of it.
pub record Holding (s w : List ℕ) (c : Counts) (t : Seen) (fs : List Item) : Type 0 where
  pub marks : List Mark
  pub laid : Laid (columns s marks (halves_of t.parts) fs) w
  pub named : t.symbols ≡ map (symbol_in s) marks
  pub inside : (i : ℕ) → i < length marks → (get_or (map (λ m. m.from) marks) i 0 ≤ get_or (map (λ m. m.to) marks) i 0) × (get_or (map (λ m. m.to) marks) i 0 ≤ length s)
  pub once : Once t.symbols
  pub stands : Standing t.parts
  pub counted : Counted c t fs
