-- What the lexer's steps rest on. Assumes nothing.
use Prim.Native.Nat.{ℕ, suc, ◌+◌, ◌<◌, ◌≤◌}
use native.Mathlib.Omega.{arith}
use mathlib.Core.Path.{◌≡◌, refl, sym, ◌∙◌, ap}
use mathlib.Core.Bool.{Bool, true, false, cond, not, ◌&&◌}
use mathlib.Core.List.{List, ◌∷◌}
use mathlib.Core.Logic.{◌≢◌}
use lib.Dec.{T, eqb, ltb, leb, ltb→lt}
use lib.ListN.{length, get_or, drop, drop_of_length-le}
use native.Mathlib.Numerals.{add-one}
use lib.Seq.{drop-cons}
use Rattle.script_terms.proofs.Tests.{both, alike, alike-one, eqb_yes, eqb_no, ltb_yes, ltb_no}
use Rattle.script_meaning.specs.Tokens.{is_blank, is_break, is_symbolic, is_digit_byte, skip, run, Token, token_of, lex}
use Rattle.script_tokens.specs.Lexing.{Classed, Onward, Skipped, Ran, Kinded, at-end, at-opening, at-closing, at_other, at-word, Lexed}

-- The whole rule as one test.
abbrev pub right : ℕ → ℕ → Bool
right b c =
    ltb c 8 && (alike (eqb c 1) (is_break b) && (alike (ltb c 2) (is_blank b) && (alike (eqb c 2) (eqb b 59)
    && (alike (eqb c 3) (eqb b 40) && (alike (eqb c 4) (eqb b 41) && (alike (leb 6 c) (is_symbolic b) && alike (eqb c 7) (is_digit_byte b)))))))

pub right-classed : (b c : ℕ) → T (right b c) → Classed b c
right-classed b c t =
    let t0 = both (ltb c 8) _ t in
    let t1 = both (alike (eqb c 1) (is_break b)) _ t0.1 in
    let t2 = both (alike (ltb c 2) (is_blank b)) _ t1.1 in
    let t3 = both (alike (eqb c 2) (eqb b 59)) _ t2.1 in
    let t4 = both (alike (eqb c 3) (eqb b 40)) _ t3.1 in
    let t5 = both (alike (eqb c 4) (eqb b 41)) _ t4.1 in
    let t6 = both (alike (leb 6 c) (is_symbolic b)) _ t5.1 in
    record {
      small = ltb→lt c 8 t0.0;
      break = alike-one _ _ t1.0;
      blank = alike-one _ _ t2.0;
      comment = alike-one _ _ t3.0;
      opens = alike-one _ _ t4.0;
      closes = alike-one _ _ t5.0;
      symbolic = alike-one _ _ t6.0;
      digit = alike-one _ _ t6.1;
    }

-- One byte on.
inside : (b i : ℕ) (l : List ℕ) {x : Bool} → is_break b ≡ x → skip true i (b ∷ l) ≡ skip (not x) (suc i) l
inside b i l e = rw e refl

outside : (b i : ℕ) (l : List ℕ) {x y : Bool} → is_blank b ≡ x → eqb b 59 ≡ y → skip false i (b ∷ l) ≡ cond x (skip false (suc i) l) (cond y (skip true (suc i) l) i)
outside b i l e f = rw (e, f) refl

module _ {state b c : ℕ} (C : Classed b c) where
  pub on-break : state ≡ 1 → c ≡ 1 → Onward state b 0
  on-break e f = record { is = λ i l. rw (eqb_yes e) (inside b i l (sym C.break ∙ eqb_yes f)); stop = λ z. absurd (omega arith) }

  pub on-comment : state ≡ 1 → c ≢ 1 → Onward state b 1
  on-comment e f = record { is = λ i l. rw (eqb_yes e) (inside b i l (sym C.break ∙ eqb_no f)); stop = λ z. absurd (omega arith) }

  pub on-blank : state ≢ 1 → c < 2 → Onward state b 0
  on-blank e f = record { is = λ i l. rw (eqb_no e) (outside b i l (sym C.blank ∙ ltb_yes f) refl); stop = λ z. absurd (omega arith) }

  pub on-semicolon : state ≢ 1 → c ≡ 2 → Onward state b 1
  on-semicolon e f = record { is = λ i l. rw (eqb_no e) (outside b i l (sym C.blank ∙ ltb_no {m = c} {n = 2} (omega arith)) (sym C.comment ∙ eqb_yes f)); stop = λ z. absurd (omega arith) }

  pub on-token : state ≢ 1 → 2 ≤ c → c ≢ 2 → Onward state b 2
  on-token e g f = record { is = λ i l. rw (eqb_no e) (outside b i l (sym C.blank ∙ ltb_no g) (sym C.comment ∙ eqb_no f)); stop = λ z. (sym C.blank ∙ ltb_no g, sym C.comment ∙ eqb_no f) }

-- A place on.
module _ (s : List ℕ) (i : ℕ) (h : i < length s) where
  skip_stop : {state next : ℕ} → Onward state (get_or s i 0) next → next ≡ 2 → skip (eqb state 1) i (drop i s) ≡ i
  skip_stop o e = rw (drop-cons s i 0) (o.is i (drop (suc i) s) ∙ rw (eqb_yes e) refl)

  skip-go : {state next : ℕ} → Onward state (get_or s i 0) next → next ≢ 2 → skip (eqb state 1) i (drop i s) ≡ skip (eqb next 1) (i + 1) (drop (i + 1) s)
  skip-go o d = rw (add-one, drop-cons s i 0) (o.is i (drop (suc i) s) ∙ rw (eqb_no d) refl)

  run-stop : is_symbolic (get_or s i 0) ≡ false → length (run (drop i s)) ≡ 0
  run-stop e = rw (drop-cons s i 0, e) refl

  run-go : is_symbolic (get_or s i 0) ≡ true → length (run (drop i s)) ≡ suc (length (run (drop (i + 1) s)))
  run-go e = rw (add-one, drop-cons s i 0, e) refl

-- What holds while blanks and comments are skipped, and while a run is followed.
pub record Skipping (s : List ℕ) (from i state : ℕ) : Type 0 where
  pub on : from ≤ i
  pub inside : i ≤ length s
  pub is : skip false from (drop from s) ≡ skip (eqb state 1) i (drop i s)

pub skip-stopped : {s : List ℕ} {from i state next : ℕ} → i < length s → Skipping s from i state → Onward state (get_or s i 0) next → next ≡ 2 → Skipped s from i
skip-stopped {s} {i = i} h S o d = record { is = sym (S.is ∙ skip_stop s i h o d); on = S.on; inside = S.inside; token = λ l. o.stop d }

pub skip-ended : {s : List ℕ} {from i state : ℕ} → length s ≤ i → Skipping s from i state → Skipped s from i
skip-ended {s} g S = record { is = sym (S.is ∙ rw (drop_of_length-le s g) refl); on = S.on; inside = S.inside; token = λ l. absurd (omega arith) }

pub skip-further : {s : List ℕ} {from i state next : ℕ} → i < length s → Skipping s from i state → Onward state (get_or s i 0) next → next ≢ 2 → Skipping s from (i + 1) next
skip-further {s} {i = i} h S o d = record { on = omega (arith, S.on); inside = omega arith; is = S.is ∙ skip-go s i h o d }

pub record Running (s : List ℕ) (from i : ℕ) : Type 0 where
  pub inside : i ≤ length s
  pub is : from + length (run (drop from s)) ≡ i + length (run (drop i s))

pub run-stopped : {s : List ℕ} {from i : ℕ} → i < length s → Running s from i → is_symbolic (get_or s i 0) ≡ false → Ran s from i
run-stopped {s} {i = i} h R e = record { is = omega (arith, R.is, run-stop s i h e); inside = R.inside }

pub run-ended : {s : List ℕ} {from i : ℕ} → length s ≤ i → Running s from i → Ran s from i
run-ended {s} {i = i} g R = let z : length (run (drop i s)) ≡ 0 = rw (drop_of_length-le s g) refl in record { is = omega (arith, R.is); inside = R.inside }

pub run-further : {s : List ℕ} {from i : ℕ} → i < length s → Running s from i → is_symbolic (get_or s i 0) ≡ true → Running s from (i + 1)
run-further {s} {i = i} h R e = record { inside = omega arith; is = omega (arith, R.is, run-go s i h e) }

lexed-from : {s : List ℕ} {at i : ℕ} → Skipped s at i → i ≡ (lex s at).from
lexed-from S = S.is

kinded-as : {s : List ℕ} {i j k : ℕ} {t t' : Token} → t' ≡ t → Kinded s i j k t → Kinded s i j k t'
kinded-as e q = rw e q

tokened : {s : List ℕ} {at i : ℕ} → Skipped s at i → (lex s at).token ≡ token_of (drop i s)
tokened {s} S = ap (λ i. token_of (drop i s)) (sym S.is)

pub lexed-end : {s : List ℕ} {at i : ℕ} → Skipped s at i → length s ≤ i → Lexed s at 0 i i
lexed-end {s} {at} {i} S g = record {
  from_is = S.is;
  token = kinded-as (tokened S ∙ ap token_of (drop_of_length-le s g)) (at-end (omega (arith, S.inside)) refl);
  on = S.on;
  inside = S.inside;
}

-- The token at a place whose byte is known.
module _ {s : List ℕ} {at i : ℕ} (S : Skipped s at i) (h : i < length s) where
  first : (lex s at).token ≡ token_of (get_or s i 0 ∷ drop (suc i) s)
  first = tokened S ∙ ap token_of (drop-cons s i 0 h)

  pub lexed-opening : get_or s i 0 ≡ 40 → Lexed s at 3 i (i + 1)
  lexed-opening e = record { from_is = S.is; token = kinded-as (first ∙ rw e refl) (at-opening refl); on = S.on; inside = omega arith }

  pub lexed-closing : get_or s i 0 ≡ 41 → Lexed s at 4 i (i + 1)
  lexed-closing e = record { from_is = S.is; token = kinded-as (first ∙ rw e refl) (at-closing refl); on = S.on; inside = omega arith }

  pub lexed-word : is_symbolic (get_or s i 0) ≡ true → get_or s i 0 ≢ 40 → get_or s i 0 ≢ 41 → {j : ℕ} → Ran s i j → Lexed s at 6 i j
  lexed-word e d d' R = record { from_is = S.is; token = kinded-as (first ∙ rw (eqb_no d, eqb_no d', drop-cons s i 0 h, e) refl) (at-word refl R.is); on = S.on; inside = R.inside }

  pub lexed-other : is_symbolic (get_or s i 0) ≡ false → get_or s i 0 ≢ 40 → get_or s i 0 ≢ 41 → Lexed s at 5 i (i + 1)
  lexed-other e d d' = record { from_is = S.is; token = kinded-as (first ∙ rw (eqb_no d, eqb_no d', e) refl) (at_other refl); on = S.on; inside = omega arith }
