-- What the readers of names in terms promise. Assumes nothing.
use Rattle.std.specs.Prelude.{ℕ, ◌≤◌, ◌<◌, ◌≡◌, true, false, List, length}
use Rattle.script_terms.specs.Flat.{Item}
use Rattle.script_meaning.specs.Tokens.{lex, next, text_of}
use Rattle.script_meaning.specs.Reading.{Seen, find, is_there, takes_of, is_own}
use Rattle.script_shelf.specs.Shelf.{Holding}
use Rattle.script_shelf.specs.declared.Counts.{Counts}

-- The table holds something that has been seen of the script.
pub record Readable (s w : List ℕ) (c : Counts) (at : ℕ) : Type 0 where
  pub inside : at ≤ length s
  pub seen : Seen
  pub fields : List Item
  pub holding : Holding s w c seen fields

-- A head by the definition.
pub data Headed (s : List ℕ) (t : Seen) (at : ℕ) : ℕ → ℕ → ℕ → ℕ → ℕ → Type 0 where
  outside : {number takes to : ℕ} → is_own (lex s at).token ≡ false → Headed s t at 14 (lex s at).from number takes to
  undeclared : {number takes to : ℕ} → is_own (lex s at).token ≡ true → is_there t.symbols (text_of (lex s at).token) ≡ false → Headed s t at 15 (lex s at).from number takes to
  declared : {place number takes to : ℕ} → is_own (lex s at).token ≡ true → is_there t.symbols (text_of (lex s at).token) ≡ true → number ≡ find t.symbols (text_of (lex s at).token) → takes ≡ takes_of t.symbols (text_of (lex s at).token)
      → to ≡ next (lex s at) → at < to → to ≤ length s → Headed s t at 0 place number takes to

pub record Heads (s w : List ℕ) (c : Counts) (at fault place number takes to : ℕ) : Type 0 where
  pub headed : (t : Seen) (fs : List Item) → Holding s w c t fs → Headed s t at fault place number takes to
