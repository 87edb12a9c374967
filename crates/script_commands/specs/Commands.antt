-- What the readers of commands ask and answer. Assumes nothing.
use Rattle.std.specs.Prelude.{ℕ, ◌≤◌, ◌≡◌, true, false, List, ◌++◌, length, Result, MatchResult}
use Rattle.script_terms.specs.Flat.{Part, curry, Item, own_of}
use Rattle.script_terms.proofs.Lists.{Grown}
use Rattle.script_terms.proofs.Known.{Known}
use Rattle.script_meaning.specs.Reading.{Got, Seen, Found as Term, term, Sides, sides, Done as Command}
use Rattle.script_shelf.specs.Shelf.{number_of}
use Rattle.script_shelf.specs.declared.Counts.{Counts}
use Rattle.script_shelf.specs.declared.refusal.Fault.TheVariants.{AboveLimit}
use Rattle.script_shelf.specs.declared.refusal.Refusal.{Refusal}
use Rattle.script_tokens.specs.declared.Lexeme.{Lexeme}
use Rattle.script_parts.specs.Meet.{new_parts}
use Rattle.script_fields.specs.Fields.{fitting}
use Rattle.script_join.specs.Promises.{Start}
use Rattle.script_term_read.specs.declared.Found.{Found}
use Rattle.script_steps.specs.Steps.{Outcome}
use Rattle.script_commands.specs.declared.Done.{Done}
use Rattle.script_commands.specs.declared.Pair.{Pair}

-- Something has been seen, within the limits, of a script that is not too long.
pub record CommandAsk (s w : List ℕ) (c : Counts) (at : ℕ) : Type 0 where
  pub inside : at ≤ length s
  pub short : length s ≤ 60000
  pub seen : Seen
  pub fields : List Item
  pub start : Start s w c seen fields

-- One side of an equality: the fields grew by those of its new parts.
pub record SideFound (s w' : List ℕ) (t : Seen) (fs : List Item) (at : ℕ) (x : Term) (f : Found) : Type 0 where
  pub start : Start s w' f.counts x.seen (fs ++ new_parts t.parts x.seen.parts)
  pub grown : Grown t.parts x.seen.parts
  pub number_is : f.number ≡ number_of x.seen.parts (curry x.term)
  pub known : Known 1001 x.seen.parts (curry x.term)
  pub behind : x.behind ≡ f.at
  pub on : at ≤ f.at
  pub inside : f.at ≤ length s

pub record SideRead (s w w' : List ℕ) (c : Counts) (at : ℕ) (r : Result Found Refusal) : Type 0 where
  pub reads : (t : Seen) (fs : List Item) → Start s w c t fs → Outcome (term s t at) (SideFound s w' t fs at) r

-- Both.
pub record SidesFound (s w' : List ℕ) (t : Seen) (fs : List Item) (at : ℕ) (e : Sides) (p : Pair) : Type 0 where
  pub start : Start s w' p.counts e.seen (fs ++ new_parts t.parts e.seen.parts)
  pub grown : Grown t.parts e.seen.parts
  pub left_is : p.left ≡ number_of e.seen.parts (curry e.left)
  pub right_is : p.right ≡ number_of e.seen.parts (curry e.right)
  pub left-known : Known 1001 e.seen.parts (curry e.left)
  pub right-known : Known 1001 e.seen.parts (curry e.right)
  pub behind : e.behind ≡ p.at
  pub on : at ≤ p.at
  pub inside : p.at ≤ length s

pub record SidesRead (s w w' : List ℕ) (c : Counts) (at : ℕ) (r : Result Pair Refusal) : Type 0 where
  pub reads : (t : Seen) (fs : List Item) → Start s w c t fs → Outcome (sides s t at) (SidesFound s w' t fs at) r

-- A command: the fields grew by those of its new parts, and its own, which no later part changes.
pub record Made (s w' : List ℕ) (t : Seen) (fs : List Item) (at : ℕ) (d : Command) (x : Done) : Type 0 where
  pub start : Start s w' x.counts d.seen (fs ++ (new_parts t.parts d.seen.parts ++ own_of 1001 d.seen.parts d.command))
  pub stays : (all : List Part) → Grown d.seen.parts all → own_of 1001 all d.command ≡ own_of 1001 d.seen.parts d.command
  pub behind : d.behind ≡ x.at
  pub on : at ≤ x.at
  pub inside : x.at ≤ length s

pub record Does (read : Seen → Got Command) (s w w' : List ℕ) (c : Counts) (at : ℕ) (r : Result Done Refusal) : Type 0 where
  pub does : (t : Seen) (fs : List Item) → Start s w c t fs → Outcome (read t) (Made s w' t fs at) r

-- The limits, at a command's closing parenthesis.
abbrev pub Finished : Counts → Lexeme → Result Done Refusal → Type 0
Finished c x r = MatchResult r (λ d. (fitting c ≡ true) × (d ≡ record { at = x.to; counts = c })) (λ e. (fitting c ≡ false) × (e ≡ record { fault = AboveLimit; place = x.from }))
