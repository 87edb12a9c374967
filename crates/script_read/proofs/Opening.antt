-- The two commands in front, and the script's end, by what the code has. Assumes nothing.
use Prim.Native.Nat.{ℕ, ◌-◌, ◌≤◌, ◌<◌}
use native.Mathlib.Omega.{arith}
use mathlib.Core.Path.{◌≡◌, refl, sym, ◌∙◌, ap, subst}
use mathlib.Core.Logic.{◌≢◌}
use mathlib.Core.Bool.{Bool, true, false, not, ◌&&◌}
use mathlib.Core.List.{List, []}
use lib.Dec.{T, leb}
use lib.ListN.{length}
use lib.Seq.{slice, length-slice}
use Rattle.std.specs.Prelude.{Result, Ok, Err}
use Rattle.script_terms.specs.Terms.{Command}
use Rattle.script_terms.proofs.Tests.{is_false, eqb_yes, eqb_no, leb_yes, leb_no}
use Rattle.script_meaning.specs.Tokens.{bytes, same_bytes, reserved, core, Token, opening, closing, word, other, ended, lex, next, is_simple, is_word, text_of}
use Rattle.script_meaning.specs.Reading.{Got, fault, got, ◌>>=◌, must, want, is_opening, is_closing, is_ended, new_name}
use Rattle.script_meaning.proofs.Matching.{bytes_one}
use Rattle.script_shelf.specs.Refusals.{fault_number}
use Rattle.script_shelf.specs.declared.refusal.Fault.TheVariants.{OutsideSubset, AgainstDeclarations, AboveLimit}
use Rattle.script_shelf.specs.declared.refusal.Refusal.{Refusal}
use Rattle.script_tokens.specs.declared.Lexeme.{Lexeme}
use Rattle.script_words.specs.Words.{known, word_at, Read}
use Rattle.script_steps.specs.Steps.{Passed, Wanted}
use Rattle.script_steps.proofs.Outcomes.{refuse, then-refused, then-got, must-yes, must-no}
use Rattle.script_steps.proofs.Stepping.{passed, here, simple-is, simple-from, name-order, wanted-stop, wanted-on, wanted-passed}
use Rattle.script_read.specs.declared.Sort.{Sort}
use Rattle.script_read.specs.Script.{set_logic, declare_sort, LogicRead, LogicSet, SortFresh, SortNamed, SortKept, SortSet, Left}

-- Words that are asked for, in front of what is left to read.
module _ {s : List ℕ} {at : ℕ} {B : Type 0} (k : ℕ → Got B) where
  set-logic-stop : {e : Refusal} → Wanted s at 58 (Err e) → (want (is_word "set-logic") s at >>= k) ≡ fault (fault_number e.fault) e.place
  unfolding known core reserved
  set-logic-stop W = wanted-stop k W

  set-logic-on : {x : Lexeme} → Wanted s at 58 (Ok x) → (want (is_word "set-logic") s at >>= k) ≡ k x.to
  unfolding known core reserved
  set-logic-on W = wanted-on k W

  declare-sort-stop : {e : Refusal} → Wanted s at 37 (Err e) → (want (is_word "declare-sort") s at >>= k) ≡ fault (fault_number e.fault) e.place
  unfolding known core reserved
  declare-sort-stop W = wanted-stop k W

  declare-sort-on : {x : Lexeme} → Wanted s at 37 (Ok x) → (want (is_word "declare-sort") s at >>= k) ≡ k x.to
  unfolding known core reserved
  declare-sort-on W = wanted-on k W

  nought-stop : {e : Refusal} → Wanted s at 60 (Err e) → (want (is_word "0") s at >>= k) ≡ fault (fault_number e.fault) e.place
  unfolding known core reserved
  nought-stop W = wanted-stop k W

  nought-on : {x : Lexeme} → Wanted s at 60 (Ok x) → (want (is_word "0") s at >>= k) ≡ k x.to
  unfolding known core reserved
  nought-on W = wanted-on k W

  logic-stop : {e : Refusal} → LogicRead s at (Err e) → (want (is_word "QF_UF") s at >>= k) ≡ fault (fault_number e.fault) e.place
  logic-stop Q = then-refused (want (is_word "QF_UF") s at) k Q.out

  logic-on : {x : Lexeme} → LogicRead s at (Ok x) → (want (is_word "QF_UF") s at >>= k) ≡ k x.to
  logic-on {x = x} Q = let v : Q.out.value ≡ x.to = Q.out.holds.is in then-got (want (is_word "QF_UF") s at) k Q.out.is ∙ ap k v

-- The logic's name.
logic-as : (x : Token) → is_word "QF_UF" x ≡ same_bytes (bytes "QF_UF") (text_of x)
logic-as opening = refl
logic-as closing = refl
logic-as (word w) = refl
logic-as other = refl
logic-as ended = refl

logic-simple : is_simple (word (bytes "QF_UF")) ≡ true
unfolding reserved
logic-simple = refl

no-logic : (x : Token) → is_simple x ≡ false → is_word "QF_UF" x ≡ false
no-logic opening e = refl
no-logic closing e = refl
no-logic (word w) e =
    is_false (same_bytes (bytes "QF_UF") w)
    (λ t. let q : bytes "QF_UF" ≡ w = bytes_one (bytes "QF_UF") w t in let z : true ≡ false = sym logic-simple ∙ ap (λ y. is_simple (word y)) q ∙ e in subst (λ b. T b) z tt)
no-logic other e = refl
no-logic ended e = refl

module _ {s : List ℕ} {at kind : ℕ} (x : Lexeme) (L : Read s at kind x.from x.to) {b : Bool} (e : b ≡ (leb 6 kind && leb kind 16)) where
  -- The logic's name is a simple symbol, as any word that is asked for by its bytes.
  pub logic-outside : b ≡ false → LogicRead s at (refuse OutsideSubset x.from)
  logic-outside f = record { out = here x L (must-no (is_word "QF_UF" (lex s at).token) 14 (lex s at).from (λ _. got (next (lex s at))) (no-logic (lex s at).token (simple-is x L e ∙ f))) }

  module _ (f : b ≡ true) where
    text-is : text_of (lex s at).token ≡ slice x.from x.to s
    text-is = L.says.text (simple-from x L e f)

    module _ {d : Bool} (g : d ≡ same_bytes (word_at 55) (slice x.from x.to s)) where
      logic-is : is_word "QF_UF" (lex s at).token ≡ d
      unfolding word_at known core reserved
      logic-is = logic-as (lex s at).token ∙ ap (same_bytes (bytes "QF_UF")) text-is ∙ sym g

      pub logic-it : d ≡ true → LogicRead s at (Ok x)
      logic-it q = record {
        out = record {
          value = next (lex s at);
          is = must-yes (is_word "QF_UF" (lex s at).token) 14 (lex s at).from (λ _. got (next (lex s at))) (logic-is ∙ q);
          holds = let h = simple-from x L e f in passed x L (λ z. omega arith);
        };
      }

      pub logic-not : d ≡ false → LogicRead s at (refuse OutsideSubset x.from)
      logic-not q = record { out = here x L (must-no (is_word "QF_UF" (lex s at).token) 14 (lex s at).from (λ _. got (next (lex s at))) (logic-is ∙ q)) }

  -- The sort's name.
  pub sort-outside : b ≡ false → SortNamed s at (refuse OutsideSubset x.from)
  sort-outside f = record { out = here x L (must-no (is_simple (lex s at).token) 14 (lex s at).from _ (simple-is x L e ∙ f)) }

  module _ (f : b ≡ true) {d : Bool} (g : d ≡ same_bytes (word_at 54) (slice x.from x.to s)) where
    bool_is : same_bytes (bytes "Bool") (text_of (lex s at).token) ≡ d
    unfolding word_at known core reserved
    bool_is = ap (same_bytes (bytes "Bool")) (text-is f) ∙ sym g

    named : new_name (same_bytes (bytes "Bool")) s at ≡ (must (not d) 15 (lex s at).from >>= λ _. must (leb (length (text_of (lex s at).token)) 32) 16 (lex s at).from >>= λ _. got (lex s at))
    named = must-yes (is_simple (lex s at).token) 14 (lex s at).from _ (simple-is x L e ∙ f) ∙ rw bool_is refl

    pub sort-bool : d ≡ true → SortNamed s at (refuse AgainstDeclarations x.from)
    sort-bool q = record { out = here x L (named ∙ must-no (not d) 15 (lex s at).from _ (rw q)) }

    size_is : length (text_of (lex s at).token) ≡ x.to - x.from
    size_is = ap length (text-is f) ∙ length-slice x.from x.to s L.inside

    pub sort-long : d ≡ false → 32 < x.to - x.from → SortNamed s at (refuse AboveLimit x.from)
    sort-long q l = record {
      out = here x L (named ∙ must-yes (not d) 15 (lex s at).from _ (rw q) ∙ must-no (leb (length (text_of (lex s at).token)) 32) 16 (lex s at).from _ (leb_no (length (text_of (lex s at).token)) 32 (omega (arith, size_is))));
    }

    pub sort-good : d ≡ false → x.to - x.from ≤ 32 → SortNamed s at (Ok x)
    sort-good q l = record {
      out = record {
        value = lex s at;
        is = named ∙ must-yes (not d) 15 (lex s at).from _ (rw q) ∙ must-yes (leb (length (text_of (lex s at).token)) 32) 16 (lex s at).from _ (leb_yes (length (text_of (lex s at).token)) 32 (omega (arith, size_is)));
        holds = record { text = text-is f; behind = sym L.behind; order = name-order x L e f; inside = L.inside };
      };
    }

-- set-logic.
module _ {s : List ℕ} where
  pub logic-open : {e : Refusal} → Wanted s 0 3 (Err e) → LogicSet s (Err e)
  logic-open O = record { set = λ k. wanted-stop _ O }

  module _ {o : Lexeme} (O : Wanted s 0 3 (Ok o)) where
    pub logic-word : {e : Refusal} → Wanted s o.to 58 (Err e) → LogicSet s (Err e)
    logic-word W = record { set = λ k. wanted-on _ O ∙ set-logic-stop _ W }

    module _ {w : Lexeme} (W : Wanted s o.to 58 (Ok w)) where
      pub logic-name : {e : Refusal} → LogicRead s w.to (Err e) → LogicSet s (Err e)
      logic-name Q = record { set = λ k. wanted-on _ O ∙ set-logic-on _ W ∙ logic-stop _ Q }

      module _ {q : Lexeme} (Q : LogicRead s w.to (Ok q)) where
        pub logic-close : {e : Refusal} → Wanted s q.to 4 (Err e) → LogicSet s (Err e)
        logic-close C = record { set = λ k. wanted-on _ O ∙ set-logic-on _ W ∙ logic-on _ Q ∙ wanted-stop k C }

        pub logic-whole : {k : Lexeme} → Wanted s q.to 4 (Ok k) → LogicSet s (Ok k.to)
        logic-whole C = record { set = (λ k. wanted-on _ O ∙ set-logic-on _ W ∙ logic-on _ Q ∙ wanted-on k C, (wanted-passed C).inside) }

-- declare-sort.
module _ {s : List ℕ} {at : ℕ} where
  pub sort-open : {e : Refusal} → Wanted s at 3 (Err e) → SortSet s at (Err e)
  sort-open O = record { set = λ k. wanted-stop _ O }

  module _ {o : Lexeme} (O : Wanted s at 3 (Ok o)) where
    pub sort-word : {e : Refusal} → Wanted s o.to 37 (Err e) → SortSet s at (Err e)
    sort-word W = record { set = λ k. wanted-on _ O ∙ declare-sort-stop _ W }

    module _ {w : Lexeme} (W : Wanted s o.to 37 (Ok w)) where
      pub sort-name : {e : Refusal} → SortNamed s w.to (Err e) → SortSet s at (Err e)
      sort-name N = record { set = λ k. wanted-on _ O ∙ declare-sort-on _ W ∙ then-refused (new_name (same_bytes (bytes "Bool")) s w.to) _ N.out }

      module _ {x : Lexeme} (N : SortNamed s w.to (Ok x)) where
        upto : (k : List ℕ → ℕ → Got (List Command)) → declare_sort s at k ≡ (want (is_word "0") s x.to >>= λ b. want is_closing s b >>= λ b. k (slice x.from x.to s) b)
        upto k =
            let b : next N.out.value ≡ x.to = N.out.holds.behind in
            let z : text_of N.out.value.token ≡ slice x.from x.to s = N.out.holds.text in
            wanted-on _ O ∙ declare-sort-on _ W ∙ then-got (new_name (same_bytes (bytes "Bool")) s w.to) _ N.out.is ∙ rw (b, z) refl

        pub sort-nought : {e : Refusal} → Wanted s x.to 60 (Err e) → SortSet s at (Err e)
        sort-nought Z = record { set = λ k. upto k ∙ nought-stop _ Z }

        module _ {z : Lexeme} (Z : Wanted s x.to 60 (Ok z)) where
          pub sort-close : {e : Refusal} → Wanted s z.to 4 (Err e) → SortSet s at (Err e)
          sort-close C = record { set = λ k. upto k ∙ nought-on _ Z ∙ wanted-stop _ C }

          pub sort-whole : {k : Lexeme} → Wanted s z.to 4 (Ok k) → SortSet s at (Ok (record { first = x.from; last = x.to; at = k.to }))
          sort-whole C =
              let y = N.out.holds.order in
              record { set = record { onward = λ k. upto k ∙ nought-on _ Z ∙ wanted-on _ C; order = omega arith; within = N.out.holds.inside; inside = (wanted-passed C).inside } }

-- exit.
module _ {s : List ℕ} {at : ℕ} where
  pub leave-close : {e : Refusal} → Wanted s at 4 (Err e) → Left s at (Err e)
  leave-close C = record { out = wanted-stop _ C }

  module _ {k : Lexeme} (C : Wanted s at 4 (Ok k)) {kind from to : ℕ} (L : Read s k.to kind from to) where
    pub leave-more : kind ≢ 0 → Left s at (refuse OutsideSubset from)
    leave-more d = record {
      out = wanted-on _ C ∙ then-refused (want is_ended s k.to) _ (must-no (is_ended (lex s k.to).token) 14 (lex s k.to).from (λ _. got (next (lex s k.to))) (L.says.ends ∙ eqb_no d)) ∙ ap (fault 14) (sym L.from_is);
    }

    pub leave-last : kind ≡ 0 → Left s at (Ok tt)
    leave-last z = record {
      out = record {
        value = [];
        is = wanted-on _ C ∙ then-got (want is_ended s k.to) _ (must-yes (is_ended (lex s k.to).token) 14 (lex s k.to).from (λ _. got (next (lex s k.to))) (L.says.ends ∙ eqb_yes z));
        holds = refl;
      };
    }
