-- What the lexer's functions answer, by the definitions of Tokens. Assumes nothing.
use Rattle.std.specs.Prelude.{ℕ, suc, ◌+◌, ◌≤◌, ◌<◌, ◌≡◌, false, cond, List, ◌∷◌, eqb, ltb, leb, length, get_or, drop}
use Rattle.script_meaning.specs.Tokens.{is_blank, is_break, is_symbolic, is_digit_byte, skip, run, Token, opening, closing, word, other, ended, lex}

-- The class of a byte.
pub record Classed (b c : ℕ) : Type 0 where
  pub small : c < 8
  pub break : eqb c 1 ≡ is_break b
  pub blank : ltb c 2 ≡ is_blank b
  pub comment : eqb c 2 ≡ eqb b 59
  pub opens : eqb c 3 ≡ eqb b 40
  pub closes : eqb c 4 ≡ eqb b 41
  pub symbolic : leb 6 c ≡ is_symbolic b
  pub digit : eqb c 7 ≡ is_digit_byte b

-- One byte on, in a comment (1) or not: a token begins there (2), or what is next.
pub record Onward (state b next : ℕ) : Type 0 where
  pub is : (i : ℕ) (l : List ℕ) → skip (eqb state 1) i (b ∷ l) ≡ cond (eqb next 2) i (skip (eqb next 1) (suc i) l)
  pub stop : next ≡ 2 → (is_blank b ≡ false) × (eqb b 59 ≡ false)

pub record Skipped (s : List ℕ) (from i : ℕ) : Type 0 where
  pub is : i ≡ skip false from (drop from s)
  pub on : from ≤ i
  pub inside : i ≤ length s
  pub token : i < length s → (is_blank (get_or s i 0) ≡ false) × (eqb (get_or s i 0) 59 ≡ false)

pub record Ran (s : List ℕ) (from i : ℕ) : Type 0 where
  pub is : i ≡ from + length (run (drop from s))
  pub inside : i ≤ length s

-- A token by its number in the code.
pub data Kinded (s : List ℕ) (from to : ℕ) : ℕ → Token → Type 0 where
  at-end : from ≡ length s → to ≡ from → Kinded s from to 0 ended
  at-opening : to ≡ from + 1 → Kinded s from to 3 opening
  at-closing : to ≡ from + 1 → Kinded s from to 4 closing
  at_other : to ≡ from + 1 → Kinded s from to 5 other
  at-word : {w : List ℕ} → w ≡ run (drop from s) → to ≡ from + length w → Kinded s from to 6 (word w)

pub record Lexed (s : List ℕ) (at kind from to : ℕ) : Type 0 where
  pub from_is : from ≡ (lex s at).from
  pub token : Kinded s from to kind (lex s at).token
  pub on : at ≤ from
  pub inside : to ≤ length s
