-- What the readers of terms, commands and scripts promise, over the table's state. Those of `join` are met; the others are checked for their types alone. Assumes nothing.
use Rattle.std.specs.Prelude.{ℕ, ◌-◌, ◌≤◌, ◌<◌, ◌≡◌, Bool, true, false, ◌||◌, List, [], ◌++◌, length}
use Rattle.script_terms.specs.Terms.{Term, call, Args, none, count, Command}
use Rattle.script_terms.specs.Flat.{Part, applied, curry, Item, new_items, own_of, items_from, parts_of}
use Rattle.script_meaning.specs.Tokens.{Lexeme, next}
use Rattle.script_meaning.specs.Reading.{Got, fault, got, Seen, with_part, fits, Found, term_at, arguments_at, command, reading}
use Rattle.script_terms.proofs.Lists.{Grown}
use Rattle.script_terms.proofs.Known.{Known}
use Rattle.script_shelf.specs.Shelf.{number_of, Holding}
use Rattle.script_shelf.specs.declared.Counts.{Counts}
use Rattle.script_parts.specs.Meet.{new_parts, Meeting, Met}

-- term_read::join: one argument more. `whole`: it is the last, and the limits are tested later.
pub record Joined (s w w' : List ℕ) (c' : Counts) (t : Seen) (fs : List Item) (p q : Part) (whole within : Bool) (number : ℕ) : Type 0 where
  pub met : Met s w w' c' t fs p q number
  pub within-is : within ≡ whole || fits (with_part (applied p q) t)

pub record Joins (w w' : List ℕ) (c c' : Counts) (a b : ℕ) (whole within : Bool) (number : ℕ) : Type 0 where
  pub joined : (s : List ℕ) (t : Seen) (fs : List Item) (p q : Part) → Meeting s w c t fs p q a b → Joined s w w' c' t fs p q whole within number

-- What a reader begins with: the table holds what has been seen, and it is within the limits.
pub record Start (s w : List ℕ) (c : Counts) (t : Seen) (fs : List Item) : Type 0 where
  pub holding : Holding s w c t fs
  pub within : fits t ≡ true

-- From t and fs to t' and fs': the parts grew, and each new one has its field.
pub record Wrote (t t' : Seen) (fs fs' : List Item) : Type 0 where
  pub grown : Grown t.parts t'.parts
  pub fields : fs' ≡ fs ++ new_parts t.parts t'.parts

-- term_read::term and ::arguments: the definition's answer for every number of steps above the unread rest.
pub data TermRead (s w : List ℕ) (t : Seen) (fs : List Item) (rest : ℕ) (read : ℕ → Got Found) (w' : List ℕ) (c' : Counts) : ℕ → ℕ → ℕ → ℕ → ℕ → Type 0 where
  refused : {n place number last at : ℕ} → (14 ≤ n) × (n ≤ 16) → length w' ≡ length w → ((k : ℕ) → rest < k → read k ≡ fault n place) → TermRead s w t fs rest read w' c' n place number last at
  found : {number last at : ℕ} (x : Term) (t' : Seen) (fs' : List Item) → length w' ≡ length w → ((k : ℕ) → rest < k → read k ≡ got (record { term = x; seen = t'; last = last; behind = at })) → Start s w' c' t' fs' → Wrote t t' fs fs'
      → number ≡ number_of t'.parts (curry x) → Known 1001 t'.parts (curry x) → at ≤ length s → length s - at ≤ rest → TermRead s w t fs rest read w' c' 0 0 number last at

pub record Terms (s w w' : List ℕ) (c c' : Counts) (d : ℕ) (x : Lexeme) (n place number last at : ℕ) : Type 0 where
  pub reads : (t : Seen) (fs : List Item) → Start s w c t fs → TermRead s w t fs (length s - next x) (λ k. term_at k s t d false x) w' c' n place number last at

pub record Arguments (s w w' : List ℕ) (c c' : Counts) (d f wants from : ℕ) (n place number last at : ℕ) : Type 0 where
  pub reads : (t : Seen) (fs : List Item) → Start s w c t fs → TermRead s w t fs (length s - from) (λ k. arguments_at k s t d f wants none from) w' c' n place number last at

-- The loop of `arguments`: what is left to read answers for the whole.
pub record Going (s w : List ℕ) (t : Seen) (fs : List Item) (d f wants from : ℕ) (w' : List ℕ) (c' : Counts) (have number at : ℕ) : Type 0 where
  pub args : Args
  pub now : Seen
  pub fields : List Item
  pub size : length w' ≡ length w
  pub holding : Holding s w' c' now fields
  pub within : have < wants → fits now ≡ true
  pub wrote : Wrote t now fs fields
  pub count-is : have ≡ count args
  pub most : have ≤ wants
  pub number_is : number ≡ number_of now.parts (curry (call f args))
  pub known : Known 1001 now.parts (curry (call f args))
  pub on : from ≤ at
  pub inside : at ≤ length s
  pub left : (a : Got Found) → ((k : ℕ) → length s - at < k → arguments_at k s now d f wants args at ≡ a) → (k : ℕ) → length s - from < k → arguments_at k s t d f wants none from ≡ a

-- commands::command and script_read::read_script.
pub data CommandRead (s u w : List ℕ) (t : Seen) (fs : List Item) (at : ℕ) (w' : List ℕ) (c' : Counts) : ℕ → ℕ → ℕ → Type 0 where
  refused : {n place behind : ℕ} → (14 ≤ n) × (n ≤ 16) → length w' ≡ length w → command s u t at ≡ fault n place → CommandRead s u w t fs at w' c' n place behind
  done : {behind : ℕ} (x : Command) (t' : Seen) → length w' ≡ length w → command s u t at ≡ got (record { command = x; seen = t'; behind = behind }) → Start s w' c' t' (fs ++ new_items 1001 t'.parts t.parts x ++ own_of 1001 t'.parts x)
      → behind ≤ length s → CommandRead s u w t fs at w' c' 0 0 behind

pub data ScriptRead (s w w' : List ℕ) (c' : Counts) : ℕ → ℕ → Type 0 where
  refused : {n place : ℕ} → length w' ≡ length w → reading s ≡ fault n place → ScriptRead s w w' c' n place
  done : {cs : List Command} (t : Seen) → length w' ≡ length w → reading s ≡ got cs → Holding s w' c' t (items_from 1001 (parts_of cs) [] cs) → ScriptRead s w w' c' 0 0
