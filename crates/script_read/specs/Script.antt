-- What the readers of a whole script ask and answer. Assumes nothing.
use Rattle.std.specs.Prelude.{ℕ, suc, ◌≤◌, ◌<◌, ◌≡◌, List, [], length, Result, MatchResult}
use Rattle.std.proofs.Math.Seq.{slice}
use Rattle.script_terms.specs.Terms.{Command, arities_of}
use Rattle.script_terms.specs.Flat.{items_from, parts_of}
use Rattle.script_meaning.specs.Tokens.{Lexeme as Meant, next, bytes, same_bytes, is_word, text_of}
use Rattle.script_meaning.specs.Reading.{Got, fault, ◌>>=◌, want, is_opening, is_closing, Seen, new_name, leave, commands_at, nothing, reading}
use Rattle.script_meaning.proofs.Accepted.{taking}
use Rattle.script_shelf.specs.Refusals.{fault_number}
use Rattle.script_shelf.specs.declared.Counts.{Counts}
use Rattle.script_shelf.specs.declared.refusal.Refusal.{Refusal}
use Rattle.script_tokens.specs.declared.Lexeme.{Lexeme}
use Rattle.script_join.specs.Promises.{Start}
use Rattle.script_steps.specs.Steps.{Outcome, Passed}
use Rattle.script_read.specs.declared.Sort.{Sort}

-- The two commands in front, each before what is left to read.
abbrev pub set_logic : List ℕ → (ℕ → Got (List Command)) → Got (List Command)
set_logic s k = want is_opening s 0 >>= λ b. want (is_word "set-logic") s b >>= λ b. want (is_word "QF_UF") s b >>= λ b. want is_closing s b >>= k

abbrev pub declare_sort : List ℕ → ℕ → (List ℕ → ℕ → Got (List Command)) → Got (List Command)
declare_sort s at k =
    want is_opening s at >>= λ b.
    want (is_word "declare-sort") s b >>= λ b.
    new_name (same_bytes (bytes "Bool")) s b >>= λ x.
    want (is_word "0") s (next x) >>= λ b.
    want is_closing s b >>= λ b.
    k (text_of x.token) b

pub record LogicRead (s : List ℕ) (at : ℕ) (r : Result Lexeme Refusal) : Type 0 where
  pub out : Outcome (want (is_word "QF_UF") s at) (Passed s at) r

-- What stands behind decides what comes of the whole, once the command is read; a refusal is the whole's.
pub record LogicSet (s : List ℕ) (r : Result ℕ Refusal) : Type 0 where
  pub set : MatchResult r (λ to. ((k : ℕ → Got (List Command)) → set_logic s k ≡ k to) × (to ≤ length s)) (λ e. (k : ℕ → Got (List Command)) → set_logic s k ≡ fault (fault_number e.fault) e.place)

pub record SortFresh (s : List ℕ) (m : Meant) (x : Lexeme) : Type 0 where
  pub text : text_of m.token ≡ slice x.from x.to s
  pub behind : next m ≡ x.to
  pub order : x.from < x.to
  pub inside : x.to ≤ length s

pub record SortNamed (s : List ℕ) (at : ℕ) (r : Result Lexeme Refusal) : Type 0 where
  pub out : Outcome (new_name (same_bytes (bytes "Bool")) s at) (SortFresh s) r

pub record SortKept (s : List ℕ) (at : ℕ) (x : Sort) : Type 0 where
  pub onward : (k : List ℕ → ℕ → Got (List Command)) → declare_sort s at k ≡ k (slice x.first x.last s) x.at
  pub order : x.first ≤ x.last
  pub within : x.last ≤ length s
  pub inside : x.at ≤ length s

pub record SortSet (s : List ℕ) (at : ℕ) (r : Result Sort Refusal) : Type 0 where
  pub set : MatchResult r (SortKept s at) (λ e. (k : List ℕ → ℕ → Got (List Command)) → declare_sort s at k ≡ fault (fault_number e.fault) e.place)

pub record Left (s : List ℕ) (at : ℕ) (r : Result (Unit {0}) Refusal) : Type 0 where
  pub out : Outcome (leave s at) (λ cs _. cs ≡ []) r

pub record CommandsAsk (s w : List ℕ) (c : Counts) (start : ℕ) : Type 0 where
  pub short : length s ≤ 60000
  pub inside : start ≤ length s
  pub begun : Start s w c nothing []

-- The table holds what the commands are, once all are read.
pub record Whole (s w : List ℕ) (cs : List Command) (c : Counts) : Type 0 where
  pub seen : Seen
  pub start : Start s w c seen (items_from 1001 (parts_of cs) [] cs)
  pub parts : seen.parts ≡ parts_of cs
  pub arities : taking seen.symbols ≡ arities_of cs

pub record CommandsRead (s u w : List ℕ) (start : ℕ) (r : Result Counts Refusal) : Type 0 where
  pub out : Outcome (commands_at (suc (length s)) s u nothing start) (Whole s w) r

-- The whole script: the definition's answer, and the table holds its commands.
pub record ScriptRead (s w : List ℕ) (r : Result Counts Refusal) : Type 0 where
  pub out : Outcome (reading s) (Whole s w) r
