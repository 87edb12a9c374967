-- DEFINITIONS, to be read against document 02, No. 4: what a script says, or by which number and at which token it is refused. The script is read front to
-- back, one token at a time, and the first token at fault decides; at one token the tests stand in the order 14, 15, 16. Assumes nothing.
use Rattle.std.specs.Prelude.{ℕ, zero, suc, ◌+◌, Bool, true, false, cond, not, ◌&&◌, ◌||◌, List, [], ◌∷◌, ◌++◌, eqb, ltb, leb, length}
use Rattle.script_terms.specs.Terms.{Term, call, Args, none, constant, count, snoc, Command, declare, equal, differ, check}
use Rattle.script_terms.specs.Flat.{Part, curry, has, add}
use Rattle.script_meaning.specs.Tokens.{Token, opening, closing, word, other, ended, Lexeme, next, lex, same_bytes, listed, core, is_simple, is_word, text_of, bytes}

-- What comes of reading something: a refusal by number and place, or what was read.
pub data Got (A : Type 0) : Type 0 where
  fault : ℕ → ℕ → Got A
  got : A → Got A

unfoldable pub ◌>>=◌ : {A B : Type 0} → Got A → (A → Got B) → Got B
◌>>=◌ (fault n p) f = fault n p
◌>>=◌ (got a) f = f a

infixl 10 ◌>>=◌
-- One of two, by a test.
unfoldable pub either : {A : Type 0} → Bool → (Unit {0} → A) → (Unit {0} → A) → A
either true f g = f tt
either false f g = g tt

-- The test must hold at a place, or else the number is given there.
unfoldable pub must : Bool → ℕ → ℕ → Got (Unit {0})
must true n p = got tt
must false n p = fault n p

abbrev pub is_opening : Token → Bool
is_opening opening = true
is_opening closing = false
is_opening (word w) = false
is_opening other = false
is_opening ended = false

abbrev pub is_closing : Token → Bool
is_closing opening = false
is_closing closing = true
is_closing (word w) = false
is_closing other = false
is_closing ended = false

abbrev pub is_ended : Token → Bool
is_ended opening = false
is_ended closing = false
is_ended (word w) = false
is_ended other = false
is_ended ended = true

-- A token that is asked for, or else 14: the place behind it.
abbrev pub want : (Token → Bool) → List ℕ → ℕ → Got ℕ
want test s at = let x = lex s at in must (test x.token) 14 x.from >>= λ _. got (next x)

-- A declared function symbol: its name and its number of arguments.
pub record Symbol : Type 0 where
  pub name : List ℕ
  pub takes : ℕ

-- What has been read so far: the declared symbols, the compound parts met, the records, the negated equalities, the check-sats.
pub record Seen : Type 0 where
  pub symbols : List Symbol
  pub parts : List Part
  pub records : ℕ
  pub differs : ℕ
  pub checks : ℕ

-- "any job limit": 1,000 tags, 4,000 records, 500 of kind 05, 1,000 questions.
abbrev pub fits : Seen → Bool
fits t = leb (length t.symbols + length t.parts) 1000 && leb t.records 4000 && leb t.differs 500 && leb t.checks 1000

abbrev pub with_symbol : Symbol → Seen → Seen
with_symbol x t = record { symbols = t.symbols ++ x ∷ []; parts = t.parts; records = t.records; differs = t.differs; checks = t.checks }

abbrev pub with_part : Part → Seen → Seen
with_part p t = record { symbols = t.symbols; parts = add t.parts p; records = cond (has t.parts p) t.records (suc t.records); differs = t.differs; checks = t.checks }

abbrev pub with_record : Seen → Seen
with_record t = record { symbols = t.symbols; parts = t.parts; records = suc t.records; differs = t.differs; checks = t.checks }

abbrev pub with_differ : Seen → Seen
with_differ t = record { symbols = t.symbols; parts = t.parts; records = t.records; differs = suc t.differs; checks = t.checks }

abbrev pub with_check : Seen → Seen
with_check t = record { symbols = t.symbols; parts = t.parts; records = t.records; differs = t.differs; checks = suc t.checks }

-- The number of the symbol with a name (how many symbols, if none has it), and its number of arguments.
abbrev pub find : List Symbol → List ℕ → ℕ
find [] w = 0
find (x ∷ l) w = cond (same_bytes x.name w) 0 (suc (find l w))

abbrev pub is_there : List Symbol → List ℕ → Bool
is_there [] w = false
is_there (x ∷ l) w = same_bytes x.name w || is_there l w

abbrev pub takes_of : List Symbol → List ℕ → ℕ
takes_of [] w = 0
takes_of (x ∷ l) w = cond (same_bytes x.name w) x.takes (takes_of l w)

-- A name to be declared: a simple symbol (14) that is not declared yet (15), up to 32 bytes (16).
abbrev pub new_name : (List ℕ → Bool) → List ℕ → ℕ → Got Lexeme
new_name taken s at =
    let x = lex s at in
    must (is_simple x.token) 14 x.from >>= λ _.
    must (not (taken (text_of x.token))) 15 x.from >>= λ _.
    must (leb (length (text_of x.token)) 32) 16 x.from >>= λ _.
    got x

-- A name in a term: a simple symbol that is none of Core's (14).
abbrev pub is_own : Token → Bool
is_own t = is_simple t && not (listed core (text_of t))

-- A term that has been read, what has been seen by its end, its last token's place and the place behind it.
pub record Found : Type 0 where
  pub term : Term
  pub seen : Seen
  pub last : ℕ
  pub behind : ℕ

-- A bare name: a declared constant (15), not deeper than 32 (16); no argument too many (15).
abbrev pub bare_at : Seen → ℕ → Bool → Lexeme → Got Found
bare_at t d extra x =
    must (is_own x.token) 14 x.from >>= λ _.
    must (is_there t.symbols (text_of x.token) && not extra && eqb (takes_of t.symbols (text_of x.token)) 0) 15 x.from >>= λ _.
    must (leb d 32) 16 x.from >>= λ _.
    got (record { term = constant (find t.symbols (text_of x.token)); seen = t; last = x.from; behind = next x })

-- A part that is not yet the whole term is ended by its last argument's last token; the whole is ended by its closing parenthesis, and tested there.
abbrev pub partial : ℕ → ℕ → Found → Term → Got Seen
partial wants have r t = let u = with_part (curry t) r.seen in must (leb wants have || fits u) 16 r.last >>= λ _. got u

-- "a term holds terms, and a list of arguments holds terms again." The term whose first token is x, at depth d, an argument too many or not; and the arguments
-- of symbol f, with ts of them read. At most so many tokens are read on: more than the script has bytes are never needed.
abbrev mutual
  pub term_at : ℕ → List ℕ → Seen → ℕ → Bool → Lexeme → Got Found
  term_at zero s t d extra x = fault 14 (length s)
  term_at (suc n) s t d extra x = either (is_opening x.token)
      (λ _.
      must (not extra) 15 x.from >>= λ _.
      must (leb d 32) 16 x.from >>= λ _.
      let h = lex s (next x) in
      let w = text_of h.token in
      must (is_own h.token) 14 h.from >>= λ _.
      must (is_there t.symbols w) 15 h.from >>= λ _.
      arguments_at n s t d (find t.symbols w) (takes_of t.symbols w) none (next h))
      (λ _. bare_at t d extra x)

  pub arguments_at : ℕ → List ℕ → Seen → ℕ → ℕ → ℕ → Args → ℕ → Got Found
  arguments_at zero s t d f wants ts at = fault 14 (length s)
  arguments_at (suc n) s t d f wants ts at =
      let x = lex s at in
      either (is_closing x.token)
      (λ _.
      must (ltb 0 (count ts)) 14 x.from >>= λ _.
      must (leb wants (count ts)) 15 x.from >>= λ _.
      must (fits t) 16 x.from >>= λ _.
      got (record { term = call f ts; seen = t; last = x.from; behind = next x }))
      (λ _.
      term_at n s t (suc d) (leb wants (count ts)) x >>= λ r.
      partial wants (suc (count ts)) r (call f (snoc ts r.term)) >>= λ u.
      arguments_at n s u d f wants (snoc ts r.term) r.behind)

abbrev pub term : List ℕ → Seen → ℕ → Got Found
term s t at = term_at (suc (length s)) s t 1 false (lex s at)

-- A sort: the declared one. Core's Bool is outside the subset (14), any other name is undeclared (15).
abbrev pub sort_is : List ℕ → Lexeme → Got ℕ
sort_is u x =
    must (is_simple x.token && not (is_word "Bool" x.token)) 14 x.from >>= λ _.
    must (same_bytes u (text_of x.token)) 15 x.from >>= λ _.
    got (next x)

-- The argument sorts of a declare-fun, up to the closing parenthesis: how many more, and the place behind it.
pub record Sorts : Type 0 where
  pub number : ℕ
  pub behind : ℕ

abbrev pub sorts_at : ℕ → List ℕ → List ℕ → ℕ → ℕ → Got Sorts
sorts_at zero s u k at = fault 14 (length s)
sorts_at (suc n) s u k at =
    let x = lex s at in
    either (is_closing x.token) (λ _. got (record { number = k; behind = next x })) (λ _. sort_is u x >>= λ b. sorts_at n s u (suc k) b)

-- A command that has been read behind its name, what has been seen by its end, and the place behind it. Job limits are tested at its closing parenthesis.
pub record Done : Type 0 where
  pub command : Command
  pub seen : Seen
  pub behind : ℕ

abbrev pub done : Command → Seen → List ℕ → ℕ → Got Done
done c t s at = want is_closing s at >>= λ b. must (fits t) 16 (lex s at).from >>= λ _. got (record { command = c; seen = t; behind = b })

abbrev pub declare_function : List ℕ → List ℕ → Seen → ℕ → Got Done
declare_function s u t at =
    new_name (λ w. listed core w || is_there t.symbols w) s at >>= λ x.
    want is_opening s (next x) >>= λ b.
    sorts_at (suc (length s)) s u 0 b >>= λ k.
    sort_is u (lex s k.behind) >>= λ b.
    done (declare k.number) (with_symbol (record { name = text_of x.token; takes = k.number }) t) s b

-- An equality behind its `=`: both terms, and its closing parenthesis.
pub record Sides : Type 0 where
  pub left : Term
  pub right : Term
  pub seen : Seen
  pub behind : ℕ

abbrev pub sides : List ℕ → Seen → ℕ → Got Sides
sides s t at = term s t at >>= λ l. term s l.seen l.behind >>= λ r. want is_closing s r.behind >>= λ b. got (record { left = l.term; right = r.term; seen = r.seen; behind = b })

-- An equality, and a negated one behind its `not`; each up to the closing parenthesis of its command.
abbrev pub equality : List ℕ → Seen → ℕ → Got Done
equality s t at = sides s t at >>= λ e. done (equal e.left e.right) (with_record e.seen) s e.behind

abbrev pub negation : List ℕ → Seen → ℕ → Got Done
negation s t at =
    want is_opening s at >>= λ b.
    want (is_word "=") s b >>= λ b.
    sides s t b >>= λ e.
    want is_closing s e.behind >>= λ b.
    done (differ e.left e.right) (with_differ e.seen) s b

abbrev pub assertion : List ℕ → Seen → ℕ → Got Done
assertion s t at =
    want is_opening s at >>= λ b.
    let x = lex s b in
    either (is_word "=" x.token) (λ _. equality s t (next x)) (λ _. want (is_word "not") s b >>= λ b. negation s t b)

-- "then exit, last".
abbrev pub leave : List ℕ → ℕ → Got (List Command)
leave s at = want is_closing s at >>= λ b. want is_ended s b >>= λ b. got []

-- A command behind its opening parenthesis, but for exit; any other word is refused.
abbrev pub command : List ℕ → List ℕ → Seen → ℕ → Got Done
command s u t at =
    let x = lex s at in
    either (is_word "declare-fun" x.token) (λ _. declare_function s u t (next x))
    (λ _. either (is_word "assert" x.token) (λ _. assertion s t (next x))
    (λ _. must (is_word "check-sat" x.token) 14 x.from >>= λ _. done check (with_check t) s (next x)))

-- "then in any order declare-fun over it, assert .. and check-sat, then exit": the commands that are left. u is the sort.
abbrev pub commands_at : ℕ → List ℕ → List ℕ → Seen → ℕ → Got (List Command)
commands_at zero s u t at = fault 14 (length s)
commands_at (suc n) s u t at =
    want is_opening s at >>= λ b.
    let x = lex s b in
    either (is_word "exit" x.token) (λ _. leave s (next x))
    (λ _. command s u t b >>= λ r. commands_at n s u r.seen r.behind >>= λ cs. got (r.command ∷ cs))

abbrev pub nothing : Seen
nothing = record { symbols = []; parts = []; records = 0; differs = 0; checks = 0 }

-- The whole script: "set-logic QF_UF, one declare-sort of arity 0, then ..".
unfoldable pub reading : List ℕ → Got (List Command)
reading s =
    want is_opening s 0 >>= λ b.
    want (is_word "set-logic") s b >>= λ b.
    want (is_word "QF_UF") s b >>= λ b.
    want is_closing s b >>= λ b.
    want is_opening s b >>= λ b.
    want (is_word "declare-sort") s b >>= λ b.
    new_name (same_bytes (bytes "Bool")) s b >>= λ x.
    want (is_word "0") s (next x) >>= λ b.
    want is_closing s b >>= λ b.
    commands_at (suc (length s)) s (text_of x.token) nothing b
