-- DEFINITIONS: the words that are told apart, and what a token's number says of it. Assumes nothing.
use Rattle.std.specs.Prelude.{ℕ, ◌+◌, ◌≤◌, ◌<◌, ◌≡◌, ◌≢◌, Bool, true, false, ◌&&◌, List, [], ◌∷◌, ◌++◌, eqb, leb, map, length, get_or}
use Prim.Native.String.{String}
use denote.Bor.{Bor}
use Rattle.std.proofs.Math.Seq.{slice}
use Rattle.script_meaning.specs.Tokens.{bytes, same_bytes, listed, reserved, core, is_digit_byte, Token, is_simple, is_word, text_of, lex, next}
use Rattle.script_meaning.specs.Reading.{is_opening, is_closing, is_ended, is_own}

-- Core's names, the reserved words, the numeral, and two words that are names wherever they are not asked for.
unfoldable pub known : List String
known = core ++ (reserved ++ "0" ∷ "Bool" ∷ "QF_UF" ∷ [])

unfoldable pub word_at : ℕ → List ℕ
word_at k = bytes (get_or known k "")

-- Whether a word is the one at a place of a list, each after its own bytes.
pub record Stands (l : List (Bor (List ℕ))) (k : ℕ) (w : List ℕ) (r : Bool) : Type 0 where
  pub is : r ≡ same_bytes (get_or (map (λ x. x.now) l) k []) w

-- w is word k of the first 54, or none of them, and k is 54.
pub record Spotted (w : List ℕ) (k : ℕ) : Type 0 where
  pub most : k ≤ 54
  pub only : (j : ℕ) → j < 54 → same_bytes (word_at j) w ≡ eqb k j

-- The number of word k that begins with a byte.
pub data Placed (k b : ℕ) : ℕ → Type 0 where
  told : k < 54 → Placed k b (7 + k)
  number : k ≡ 54 → is_digit_byte b ≡ true → Placed k b 5
  name : k ≡ 54 → is_digit_byte b ≡ false → Placed k b 6

-- The number of a word by its bytes.
pub record Told (w : List ℕ) (kind : ℕ) : Type 0 where
  pub place : ℕ
  pub spotted : Spotted w place
  pub placed : Placed place (get_or w 0 0) kind

-- What the number of a token says of it: 0 the end, 3 and 4 parentheses, 6 a name of the script's own, 7 to 16 Core's names, from 17 on the reserved words, 60 the
-- numeral 0; anything else is 5.
pub record Says (s : List ℕ) (x : Token) (kind from to : ℕ) : Type 0 where
  pub some : kind ≢ 0 → from < to
  pub over : kind ≡ 0 → from ≡ length s
  pub opens : is_opening x ≡ eqb kind 3
  pub closes : is_closing x ≡ eqb kind 4
  pub ends : is_ended x ≡ eqb kind 0
  pub own : is_own x ≡ eqb kind 6
  pub simple : is_simple x ≡ leb 6 kind && leb kind 16
  pub cores : 6 ≤ kind → listed core (text_of x) ≡ leb 7 kind && leb kind 16
  pub text : 6 ≤ kind → text_of x ≡ slice from to s
  pub word : (j : ℕ) → j < 54 → is_word (get_or known j "") x ≡ eqb kind (7 + j)

-- The token that is next from a place on, where it begins, and the place behind it.
pub record Read (s : List ℕ) (at kind from to : ℕ) : Type 0 where
  pub from_is : from ≡ (lex s at).from
  pub behind : to ≡ next (lex s at)
  pub on : at ≤ from
  pub inside : to ≤ length s
  pub says : Says s (lex s at).token kind from to
