-- What the readers of terms ask and answer. Assumes nothing.
use Rattle.std.specs.Prelude.{ℕ, ◌-◌, ◌≤◌, ◌<◌, List, length, Result, MatchResult}
use Rattle.script_terms.specs.Terms.{none}
use Rattle.script_terms.specs.Flat.{Item}
use Rattle.script_meaning.specs.Tokens.{Lexeme}
use Rattle.script_meaning.specs.Reading.{Seen, arguments_at}
use Rattle.script_words.specs.Words.{Read}
use Rattle.script_shelf.specs.Refusals.{fault_number}
use Rattle.script_shelf.specs.declared.Counts.{Counts}
use Rattle.script_shelf.specs.declared.refusal.Refusal.{Refusal}
use Rattle.script_join.specs.Promises.{Start, TermRead, Terms, Arguments, Going}
use Rattle.script_term_read.specs.declared.Found.{Found}

-- Something has been seen, within the limits; the term's first token, read from `at` on, is at hand.
pub record TermAsk (s w : List ℕ) (c : Counts) (at kind from to : ℕ) : Type 0 where
  pub lexed : Read s at kind from to
  pub seen : Seen
  pub fields : List Item
  pub start : Start s w c seen fields

pub record ArgumentsAsk (s w : List ℕ) (c : Counts) (f from : ℕ) : Type 0 where
  pub inside : from ≤ length s
  pub declared : f < 1001
  pub seen : Seen
  pub fields : List Item
  pub start : Start s w c seen fields

-- An answer by its parts: the counts, a number, a place, a term's number, its last token and the place behind it. A term that was found has the number 0; a refusal has its
-- number and its place, whatever the others are.
abbrev pub Told : Result Found Refusal → (Counts → ℕ → ℕ → ℕ → ℕ → ℕ → Type 0) → Type 0
Told r P = MatchResult r (λ f. P f.counts 0 0 f.number f.last f.at) (λ e. (c : Counts) (number last at : ℕ) → P c (fault_number e.fault) e.place number last at)

pub record TermAnswered (s w w' : List ℕ) (c : Counts) (d : ℕ) (x : Lexeme) (r : Result Found Refusal) : Type 0 where
  pub told : Told r (λ c' n place number last at. Terms s w w' c c' d x n place number last at)

pub record ArgumentsAnswered (s w w' : List ℕ) (c : Counts) (d f wants from : ℕ) (r : Result Found Refusal) : Type 0 where
  pub told : Told r (λ c' n place number last at. Arguments s w w' c c' d f wants from n place number last at)

-- What closes a list of arguments, all of which are read.
pub record ClosesBy (s : List ℕ) (c c' : Counts) (number have at n place number' last at' : ℕ) : Type 0 where
  pub closes : (w w' : List ℕ) (t : Seen) (fs : List Item) (d f wants from : ℕ) → Going s w t fs d f wants from w' c have number at → wants ≤ have
      → TermRead s w t fs (length s - from) (λ k. arguments_at k s t d f wants none from) w' c' n place number' last at'

pub record Closes (s : List ℕ) (c : Counts) (number have at : ℕ) (r : Result Found Refusal) : Type 0 where
  pub told : Told r (λ c' n place number' last at'. ClosesBy s c c' number have at n place number' last at')
