-- What the steps of a command answer: the definition's own answer, refusal or not, and what is known of it. Assumes nothing.
use Rattle.std.specs.Prelude.{ℕ, ◌-◌, ◌≤◌, ◌<◌, ◌≡◌, Bool, false, cond, ◌&&◌, ◌||◌, List, eqb, ltb, leb, length, get_or, Result, MatchResult}
use Rattle.std.proofs.Math.Seq.{slice}
use Rattle.script_terms.specs.Flat.{Item}
use Rattle.script_meaning.specs.Tokens.{Token, Lexeme as Meant, lex, next, listed, core, is_word, text_of}
use Rattle.script_meaning.specs.Reading.{Got, fault, got, is_opening, is_closing, Seen, want, is_there, new_name, sort_is, Sorts, sorts_at}
use Rattle.script_shelf.specs.Refusals.{fault_number}
use Rattle.script_shelf.specs.Shelf.{Holding}
use Rattle.script_shelf.specs.declared.Counts.{Counts}
use Rattle.script_shelf.specs.declared.refusal.Refusal.{Refusal}
use Rattle.script_tokens.specs.declared.Lexeme.{Lexeme}
use Rattle.script_words.specs.Words.{known}
use Rattle.script_steps.specs.declared.Count.{Count}

-- The definition gives a value, and something holds of it and of what the code gives.
pub record Gave {A B : Type 0} (g : Got A) (P : A → B → Type 0) (b : B) : Type 0 where
  pub value : A
  pub is : g ≡ got value
  pub holds : P value b

-- A refusal is the definition's, by number and place; what was read is the definition's too.
abbrev pub Outcome : {A B : Type 0} → Got A → (A → B → Type 0) → Result B Refusal → Type 0
Outcome g P r = MatchResult r (Gave g P) (λ e. g ≡ fault (fault_number e.fault) e.place)

-- The test for the token of a number: a parenthesis, or one of the words that are told apart.
abbrev pub asked : ℕ → Token → Bool
asked k x = cond (eqb k 3) (is_opening x) (cond (eqb k 4) (is_closing x) (is_word (get_or known (k - 7) "") x))

abbrev pub askable : ℕ → Bool
askable k = eqb k 3 || (eqb k 4 || (leb 7 k && ltb k 61))

-- x is the token that is next from `at` on, and b the place behind it.
pub record Passed (s : List ℕ) (at b : ℕ) (x : Lexeme) : Type 0 where
  pub is : b ≡ x.to
  pub place_is : x.from ≡ (lex s at).from
  pub on : at < x.to
  pub inside : x.to ≤ length s

-- The token of a number is asked for; the declared sort u is.
pub record Wanted (s : List ℕ) (at kind : ℕ) (r : Result Lexeme Refusal) : Type 0 where
  pub out : Outcome (want (asked kind) s at) (Passed s at) r

pub record SortRead (s u : List ℕ) (at : ℕ) (r : Result Lexeme Refusal) : Type 0 where
  pub out : Outcome (sort_is u (lex s at)) (Passed s at) r

-- The sorts of a declare-fun: the definition's answer for every number of steps above the unread rest.
pub record Numbered (s : List ℕ) (start : ℕ) (k : Sorts) (n : Count) : Type 0 where
  pub number_is : n.number ≡ k.number
  pub behind : n.at ≡ k.behind
  pub on : start ≤ n.at
  pub inside : n.at ≤ length s

pub record Sorted (s u : List ℕ) (start : ℕ) (r : Result Count Refusal) : Type 0 where
  pub reads : (k : ℕ) → length s - start < k → Outcome (sorts_at k s u 0 start) (Numbered s start) r

-- A new name.
pub record Fresh (s : List ℕ) (t : Seen) (at : ℕ) (m : Meant) (x : Lexeme) : Type 0 where
  pub is : m ≡ lex s at
  pub text : text_of m.token ≡ slice x.from x.to s
  pub behind : x.to ≡ next m
  pub order : x.from < x.to
  pub on : at < x.to
  pub inside : x.to ≤ length s
  pub unused : is_there t.symbols (slice x.from x.to s) ≡ false

pub record NewNames (s w : List ℕ) (c : Counts) (at : ℕ) (r : Result Lexeme Refusal) : Type 0 where
  pub names : (t : Seen) (fs : List Item) → Holding s w c t fs → Outcome (new_name (λ w. listed core w || is_there t.symbols w) s at) (Fresh s t at) r
