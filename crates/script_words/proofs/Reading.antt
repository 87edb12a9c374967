-- A token by its number. Assumes nothing.
use Prim.Native.Nat.{ℕ, zero, suc, ◌+◌, ◌-◌, ◌≤◌, ◌<◌}
use native.Mathlib.Omega.{arith}
use native.Mathlib.Decide.{ℕ_discrete}
use mathlib.Core.Path.{◌≡◌, refl, sym, ◌∙◌, ap, subst}
use mathlib.Core.Logic.{◌≢◌}
use mathlib.Core.Bool.{Bool, true, false, cond}
use mathlib.Core.List.{List, [], ◌∷◌}
use lib.Dec.{eqb}
use lib.ListN.{length, get_or, drop, take, length-drop}
use Rattle.std.proofs.Common.{length-take-le}
use lib.Seq.{slice, slice-cons, take-nil}
use Rattle.script_terms.proofs.Tests.{eqb_yes, eqb_no}
use Rattle.script_meaning.specs.Tokens.{bytes, same_bytes, listed, core, is_digit_byte, first_digit, is_symbolic, run, Token, opening, closing, word, other, token_of, lex, next, size_of, is_simple}
use Rattle.script_meaning.specs.Reading.{is_own}
use Rattle.script_meaning.proofs.Matching.{part-is}
use Rattle.script_tokens.specs.Lexing.{Kinded, at-end, at-opening, at-closing, at_other, at-word, Lexed}
use Rattle.script_words.specs.Words.{known, word_at, Spotted, Placed, told, number, name, Told, Says, Read}
use Rattle.script_words.proofs.Telling.{spotted-is, told_of, none-core, none-reserved}

-- A run is the front of what it is taken from.
run-front : (l : List ℕ) → run l ≡ take (length (run l)) l
run-front [] = refl
run-front (b ∷ l) = go (is_symbolic b) (run-front l)
  where
    go : (c : Bool) → run l ≡ take (length (run l)) l → cond c (b ∷ run l) [] ≡ take (length (cond c (b ∷ run l) [])) (b ∷ l)
    go true e = ap (λ y. b ∷ y) e
    go false e = refl

part-as : (s : List ℕ) (from n : ℕ) → take n (drop from s) ≡ slice from (from + n) s
part-as s from n = let z : from + n - from ≡ n = omega arith in ap (λ k. take k (drop from s)) (sym z) ∙ part-is s (omega arith)

-- A word has a byte.
some_byte : (l w : List ℕ) → token_of l ≡ word w → 0 < length w
some_byte [] w e = let z : ◌≡◌ {A = ℕ} 0 1 = cc in absurd (omega arith)
some_byte (b ∷ l) w e = go (eqb b 40) (eqb b 41) (is_symbolic b) refl e
  where
    go : (x y z : Bool) → is_symbolic b ≡ z → cond x opening (cond y closing (cond z (word (run (b ∷ l))) other)) ≡ word w → 0 < length w
    go true y z q e = let z : ◌≡◌ {A = ℕ} 0 1 = cc in absurd (omega arith)
    go false true z q e = let z : ◌≡◌ {A = ℕ} 0 1 = cc in absurd (omega arith)
    go false false true q e =
        let u : run (b ∷ l) ≡ w = cc in
        let v : run (b ∷ l) ≡ b ∷ run l = rw q in
        let n : length w ≡ suc (length (run l)) = ap length (sym u ∙ v) in
        omega arith
    go false false false q e = let z : ◌≡◌ {A = ℕ} 0 1 = cc in absurd (omega arith)

no_word : (k j : ℕ) → k < 6 → false ≡ eqb k (7 + j)
no_word k j h = sym (eqb_no (let d : k ≡ 7 + j → ⊥ = λ z. omega arith in d))

-- A token that is no word.
says_plain : (s : List ℕ) (kind from to : ℕ) (x : Token) → Kinded s from to kind x → kind ≢ 6 → Says s x kind from to
says_plain s kind from to x (at-end a b) d =
    record { some = λ z. absurd (z refl); over = λ z. a; opens = refl; closes = refl; ends = refl; own = refl; simple = refl; cores = λ h. absurd (omega arith); text = λ h. absurd (omega arith); word = λ j h. no_word 0 j (omega arith) }
says_plain s kind from to x (at-opening a) d =
    record { some = λ z. omega arith; over = λ z. absurd (omega arith); opens = refl; closes = refl; ends = refl; own = refl; simple = refl; cores = λ h. absurd (omega arith); text = λ h. absurd (omega arith); word = λ j h. no_word 3 j (omega arith) }
says_plain s kind from to x (at-closing a) d =
    record { some = λ z. omega arith; over = λ z. absurd (omega arith); opens = refl; closes = refl; ends = refl; own = refl; simple = refl; cores = λ h. absurd (omega arith); text = λ h. absurd (omega arith); word = λ j h. no_word 4 j (omega arith) }
says_plain s kind from to x (at_other a) d =
    record { some = λ z. omega arith; over = λ z. absurd (omega arith); opens = refl; closes = refl; ends = refl; own = refl; simple = refl; cores = λ h. absurd (omega arith); text = λ h. absurd (omega arith); word = λ j h. no_word 5 j (omega arith) }
says_plain s kind from to x (at-word a b) d = absurd (d refl)

-- A word, by its place among the words.
apart_by : (k j : ℕ) → eqb (7 + k) (7 + j) ≡ eqb k j
apart_by k j = go (ℕ_discrete k j)
  where
    go : Dec (k ≡ j) → eqb (7 + k) (7 + j) ≡ eqb k j
    go (yes e) = eqb_yes (ap (λ i. 7 + i) e) ∙ sym (eqb_yes e)
    go (no d) = eqb_no (let f : 7 + k ≡ 7 + j → ⊥ = λ z. d (omega arith) in f) ∙ sym (eqb_no d)

module _ (s : List ℕ) (from to : ℕ) (w : List ℕ) (t : w ≡ slice from to s) (h : from < to) (i : to ≤ length s) where
  first-is : first_digit w ≡ is_digit_byte (get_or s from 0)
  first-is = rw (t, slice-cons from to s 0 h i)

  pub says-word : {k kind : ℕ} → Spotted w k → Placed k (get_or s from 0) kind → Says s (word w) kind from to
  unfolding word_at
  says-word {k} S (told l) =
      let e : w ≡ word_at k = spotted-is l S in
      let T = told_of k l in
      record {
        some = λ z. h;
        over = λ z. absurd (omega arith);
        opens = eqb-not 3 (omega arith);
        closes = eqb-not 4 (omega arith);
        ends = eqb-not 0 (omega arith);
        own = ap (λ y. is_own (word y)) e ∙ T.own ∙ eqb-not 6 (omega arith);
        simple = ap (λ y. is_simple (word y)) e ∙ T.simple;
        cores = λ z. ap (listed core) e ∙ T.cores;
        text = λ z. t;
        word = λ j b. words j b ∙ sym (apart_by k j);
      }
    where
      eqb-not : (m : ℕ) → m < 7 → false ≡ eqb (7 + k) m
      eqb-not m b = sym (eqb_no (let d : 7 + k ≡ m → ⊥ = λ z. omega arith in d))

      words : (j : ℕ) → j < 54 → same_bytes (bytes (get_or known j "")) w ≡ eqb k j
      words j b = S.only j b
  says-word {k} S (number l d) =
      record { some = λ z. h; over = λ z. absurd (omega arith); opens = refl; closes = refl; ends = refl; own = own; simple = simple; cores = λ z. absurd (omega arith); text = λ z. t; word = λ j b. words j b ∙ no_word 5 j (omega arith) }
    where
      simple : is_simple (word w) ≡ false
      simple = rw (first-is ∙ d)

      own : is_own (word w) ≡ false
      own = rw (first-is ∙ d)

      words : (j : ℕ) → j < 54 → same_bytes (bytes (get_or known j "")) w ≡ false
      words j b = S.only j b ∙ eqb_no (let f : k ≡ j → ⊥ = λ z. omega arith in f)
  says-word {k} S (name l d) =
      record { some = λ z. h; over = λ z. absurd (omega arith); opens = refl; closes = refl; ends = refl; own = own; simple = simple; cores = λ z. none-core l S; text = λ z. t; word = λ j b. words j b ∙ no_word 6 j }
    where
      simple : is_simple (word w) ≡ true
      simple = rw (first-is ∙ d, none-reserved l S)

      own : is_own (word w) ≡ true
      own = rw (first-is ∙ d, none-reserved l S, none-core l S)

      words : (j : ℕ) → j < 54 → same_bytes (bytes (get_or known j "")) w ≡ false
      words j b = S.only j b ∙ eqb_no (let f : k ≡ j → ⊥ = λ z. omega arith in f)

      no_word : (k j : ℕ) → false ≡ eqb 6 (7 + j)
      no_word k j = sym (eqb_no (let f : 6 ≡ 7 + j → ⊥ = λ z. omega arith in f))

-- The word that a token is.
record Worded (s : List ℕ) (from to : ℕ) (x : Token) : Type 0 where
  w : List ℕ
  is : x ≡ word w
  text : w ≡ slice from to s
  more : from < to

worded : (s : List ℕ) (at from to : ℕ) (x : Token) → (lex s at).token ≡ x → Kinded s from to 6 x → Worded s from to x
worded s at from to x e (at-word {w = w} a b) =
    let n : 0 < length w = some_byte (drop (lex s at).from s) w e in
    let r : w ≡ slice from (from + length w) s = a ∙ run-front (drop from s) ∙ ap (λ y. take (length y) (drop from s)) (sym a) ∙ part-as s from (length w) in
    record { w = w; is = refl; text = subst (λ y. w ≡ slice from y s) (sym b) r; more = omega arith }

size-of : (s : List ℕ) (kind from to : ℕ) (x : Token) → Kinded s from to kind x → to ≡ from + size_of x
size-of s kind from to x (at-end a b) = omega arith
size-of s kind from to x (at-opening a) = a
size-of s kind from to x (at-closing a) = a
size-of s kind from to x (at_other a) = a
size-of s kind from to x (at-word a b) = b

module _ {s : List ℕ} {at kind from to : ℕ} (L : Lexed s at kind from to) where
  behind-is : to ≡ next (lex s at)
  behind-is = size-of s kind from to (lex s at).token L.token ∙ ap (λ y. y + size_of (lex s at).token) L.from_is

  pub read_plain : kind ≢ 6 → Read s at kind from to
  read_plain d = record { from_is = L.from_is; behind = behind-is; on = L.on; inside = L.inside; says = says_plain s kind from to (lex s at).token L.token d }

  word-at : kind ≡ 6 → Worded s from to (lex s at).token
  word-at e = worded s at from to (lex s at).token refl (subst (λ k. Kinded s from to k (lex s at).token) e L.token)

  pub word-order : kind ≡ 6 → from < to
  word-order e = (word-at e).more

  -- The bytes as the code takes them.
  pub word-slice : kind ≡ 6 → take (to - from) (drop from s) ≡ slice from to s
  word-slice e = let h = word-order e in part-is s (omega arith)

  pub word-some : kind ≡ 6 → 0 < length (take (to - from) (drop from s))
  word-some e =
      let h = word-order e in
      let i = L.inside in
      let k : to - from ≤ length (drop from s) = omega (arith, length-drop from s) in
      omega (arith, length-take-le (to - from) (drop from s) k)

  pub read_word : kind ≡ 6 → {kind' : ℕ} → Told (take (to - from) (drop from s)) kind' → Read s at kind' from to
  read_word e {kind'} T =
      let W = word-at e in
      let w : take (to - from) (drop from s) ≡ W.w = word-slice e ∙ sym W.text in
      let b : get_or (take (to - from) (drop from s)) 0 0 ≡ get_or s from 0 = ap (λ y. get_or y 0 0) (word-slice e ∙ slice-cons from to s 0 (word-order e) L.inside) in
      let Z : Says s (word W.w) kind' from to = says-word s from to W.w W.text W.more L.inside (subst (λ y. Spotted y T.place) w T.spotted) (subst (λ x. Placed T.place x kind') b T.placed) in
      record { from_is = L.from_is; behind = behind-is; on = L.on; inside = L.inside; says = subst (λ y. Says s y kind' from to) (sym W.is) Z }
