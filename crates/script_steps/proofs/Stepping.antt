-- The steps, by what the code has. Assumes nothing.
use Prim.Native.Nat.{ℕ, zero, suc, ◌+◌, ◌-◌, ◌≤◌, ◌<◌}
use native.Mathlib.Omega.{arith}
use native.Mathlib.Numerals.{add-one}
use mathlib.Core.Path.{◌≡◌, refl, sym, ◌∙◌, ap}
use mathlib.Core.Logic.{◌≢◌}
use mathlib.Core.Bool.{Bool, true, false, cond, not, ◌&&◌, ◌||◌}
use mathlib.Core.List.{List}
use lib.Dec.{T, eqb, eqb→eq, ltb, ltb→lt, leb, leb→le}
use lib.ListN.{length, get_or}
use lib.Seq.{slice, length-slice}
use Rattle.std.specs.Prelude.{Result, Ok, Err}
use Rattle.script_terms.proofs.Tests.{both, both_hold, eqb_yes, eqb_no, leb_yes, leb_no}
use Rattle.script_terms.specs.Flat.{Item}
use Rattle.script_meaning.specs.Tokens.{bytes, same_bytes, listed, reserved, core, Token, opening, closing, word, other, ended, lex, next, is_simple, is_word, text_of}
use Rattle.script_meaning.specs.Reading.{Got, fault, got, ◌>>=◌, must, want, is_opening, is_closing, Seen, is_there, new_name, sort_is, sorts_at}
use Rattle.script_shelf.specs.Refusals.{fault_number}
use Rattle.script_shelf.specs.Shelf.{Holding}
use Rattle.script_shelf.specs.declared.Counts.{Counts}
use Rattle.script_shelf.specs.declared.refusal.Fault.TheVariants.{OutsideSubset, AgainstDeclarations, AboveLimit}
use Rattle.script_shelf.specs.declared.refusal.Refusal.{Refusal}
use Rattle.script_tokens.specs.declared.Lexeme.{Lexeme}
use Rattle.script_names.specs.Names.{Looks}
use Rattle.script_words.specs.Words.{known, word_at, Says, Read}
use Rattle.script_steps.specs.declared.Count.{Count}
use Rattle.script_steps.specs.Steps.{Gave, Outcome, asked, askable, Passed, Wanted, SortRead, Numbered, Sorted, NewNames}
use Rattle.script_steps.proofs.Outcomes.{refuse, then-refused, then-got, must-yes, must-no, either-yes, either-no, as-of}

-- A token by its number is the token that is asked for.
as-asked : {s : List ℕ} {x : Token} {kind from to : ℕ} (k : ℕ) → T (askable k) → Says s x kind from to → asked k x ≡ eqb kind k
as-asked {x = x} {kind = kind} k t S = go (eqb k 3) (eqb k 4) refl refl (eqb→eq k 3) (eqb→eq k 4) t
  where
    tail : (7 ≤ k) × (k < 61) → is_word (get_or known (k - 7) "") x ≡ eqb kind k
    tail h = let e : 7 + (k - 7) ≡ k = omega (arith, h.0) in S.word (k - 7) (omega (arith, h.0, h.1)) ∙ ap (eqb kind) e

    go : (a b : Bool) → eqb k 3 ≡ a → eqb k 4 ≡ b → (T a → k ≡ 3) → (T b → k ≡ 4) → T (a || (b || (leb 7 k && ltb k 61))) → cond a (is_opening x) (cond b (is_closing x) (is_word (get_or known (k - 7) "") x)) ≡ eqb kind k
    go true b e f g h u = S.opens ∙ ap (eqb kind) (sym (g tt))
    go false true e f g h u = S.closes ∙ ap (eqb kind) (sym (h tt))
    go false false e f g h u = let p = both (leb 7 k) (ltb k 61) u in tail (leb→le 7 k p.0, ltb→lt k 61 p.1)

module _ {s : List ℕ} {at kind : ℕ} (x : Lexeme) (L : Read s at kind x.from x.to) where
  pub passed : kind ≢ 0 → Passed s at (next (lex s at)) x
  passed d = let h = L.says.some d in record { is = sym L.behind; place_is = L.from_is; on = omega (arith, L.on); inside = L.inside }

  -- A refusal at the token at hand.
  pub here : {A : Type 0} {g : Got A} {n : ℕ} → g ≡ fault n (lex s at).from → g ≡ fault n x.from
  here {n = n} e = e ∙ ap (fault n) (sym L.from_is)

  pub want-there : (k : ℕ) → T (askable k) → kind ≡ k → Wanted s at k (Ok x)
  want-there k t e = record {
    out = record { value = next (lex s at); is = must-yes (asked k (lex s at).token) 14 (lex s at).from (λ _. got (next (lex s at))) (as-asked k t L.says ∙ eqb_yes e); holds = passed (λ z. not-nought k t (sym e ∙ z)) };
  }
    where
      not-nought : (k : ℕ) → T (askable k) → k ≡ 0 → ⊥
      not-nought k t z = rw z at t

  pub want-missed : (k : ℕ) → T (askable k) → kind ≢ k → Wanted s at k (refuse OutsideSubset x.from)
  want-missed k t d = record { out = here (must-no (asked k (lex s at).token) 14 (lex s at).from (λ _. got (next (lex s at))) (as-asked k t L.says ∙ eqb_no d)) }

  -- Simple symbols.
  module _ {b : Bool} (e : b ≡ (leb 6 kind && leb kind 16)) where
    pub simple-is : is_simple (lex s at).token ≡ b
    simple-is = L.says.simple ∙ sym e

    pub simple-from : b ≡ true → 6 ≤ kind
    simple-from f = leb→le 6 kind (rw (both_hold (leb 6 kind) (leb kind 16) (sym e ∙ f)).0 tt)

    pub simple-to : b ≡ true → kind ≤ 16
    simple-to f = leb→le kind 16 (rw (both_hold (leb 6 kind) (leb kind 16) (sym e ∙ f)).1 tt)

    pub name-order : b ≡ true → x.from < x.to
    name-order f = let h = simple-from f in L.says.some (λ z. omega arith)

    -- Sorts.
    module _ (u : List ℕ) where
      pub sort-outside : b ≡ false → SortRead s u at (refuse OutsideSubset x.from)
      sort-outside f = record { out = here (must-no (is_simple (lex s at).token && not (is_word "Bool" (lex s at).token)) 14 (lex s at).from _ (rw (simple-is ∙ f))) }

      module _ (f : b ≡ true) {d : Bool} (g : d ≡ same_bytes (word_at 54) (slice x.from x.to s)) where
        bool_is : is_word "Bool" (lex s at).token ≡ d
        unfolding word_at known core reserved
        bool_is = go (lex s at).token (L.says.text (simple-from f)) (simple-is ∙ f) ∙ sym g
          where
            go : (y : Token) → text_of y ≡ slice x.from x.to s → is_simple y ≡ true → is_word "Bool" y ≡ same_bytes (bytes "Bool") (slice x.from x.to s)
            go opening e q = let z : ◌≡◌ {A = ℕ} 0 1 = cc in absurd (omega arith)
            go closing e q = let z : ◌≡◌ {A = ℕ} 0 1 = cc in absurd (omega arith)
            go (word w) e q = ap (same_bytes (bytes "Bool")) e
            go other e q = let z : ◌≡◌ {A = ℕ} 0 1 = cc in absurd (omega arith)
            go ended e q = let z : ◌≡◌ {A = ℕ} 0 1 = cc in absurd (omega arith)

        pub sort-bool : d ≡ true → SortRead s u at (refuse OutsideSubset x.from)
        sort-bool q = record { out = here (must-no (is_simple (lex s at).token && not (is_word "Bool" (lex s at).token)) 14 (lex s at).from _ (rw (simple-is ∙ f, bool_is ∙ q))) }

        module _ (q : d ≡ false) {v : Bool} (r : v ≡ same_bytes u (slice x.from x.to s)) where
          same-is : same_bytes u (text_of (lex s at).token) ≡ v
          same-is = ap (same_bytes u) (L.says.text (simple-from f)) ∙ sym r

          on-to : sort_is u (lex s at) ≡ (must (same_bytes u (text_of (lex s at).token)) 15 (lex s at).from >>= λ _. got (next (lex s at)))
          on-to = must-yes (is_simple (lex s at).token && not (is_word "Bool" (lex s at).token)) 14 (lex s at).from _ (rw (simple-is ∙ f, bool_is ∙ q))

          pub sort-other : v ≡ false → SortRead s u at (refuse AgainstDeclarations x.from)
          sort-other i = record { out = here (on-to ∙ must-no (same_bytes u (text_of (lex s at).token)) 15 (lex s at).from _ (same-is ∙ i)) }

          pub sort-it : v ≡ true → SortRead s u at (Ok x)
          sort-it i = record { out = record { value = next (lex s at); is = on-to ∙ must-yes (same_bytes u (text_of (lex s at).token)) 15 (lex s at).from _ (same-is ∙ i); holds = let h = simple-from f in passed (λ z. omega arith) } }

    -- Names.
    taken : b ≡ true → (t : Seen) (taken : Bool) → (listed core (text_of (lex s at).token) || is_there t.symbols (text_of (lex s at).token)) ≡ taken
        → new_name (λ w. listed core w || is_there t.symbols w) s at ≡ (must (not taken) 15 (lex s at).from >>= λ _. must (leb (length (text_of (lex s at).token)) 32) 16 (lex s at).from >>= λ _. got (lex s at))
    taken f t v e = must-yes (is_simple (lex s at).token) 14 (lex s at).from _ (simple-is ∙ f) ∙ rw e refl

    module _ {w : List ℕ} {c : Counts} where
      pub name-outside : b ≡ false → NewNames s w c at (refuse OutsideSubset x.from)
      name-outside f = record { names = λ t fs H. here (must-no (is_simple (lex s at).token) 14 (lex s at).from _ (simple-is ∙ f)) }

      module _ (f : b ≡ true) where
        pub name-core : kind ≢ 6 → NewNames s w c at (refuse AgainstDeclarations x.from)
        name-core d = record {
          names = λ t fs H.
              let h = simple-from f in
              let e : listed core (text_of (lex s at).token) ≡ true = L.says.cores h ∙ rw (leb_yes 7 kind (omega arith), leb_yes kind 16 (simple-to f)) in
              here (taken f t true (rw e) ∙ must-no false 15 (lex s at).from _ refl);
        }

        module _ (q : kind ≡ 6) {number takes : ℕ} {there : Bool} (K : Looks s w c x.from x.to there number takes) where
          taken_is : (t : Seen) (fs : List Item) → Holding s w c t fs → (listed core (text_of (lex s at).token) || is_there t.symbols (text_of (lex s at).token)) ≡ there
          taken_is t fs H =
              let h = simple-from f in
              let e : listed core (text_of (lex s at).token) ≡ false = L.says.cores h ∙ rw (leb_no 7 kind (omega arith)) in
              rw e (ap (is_there t.symbols) (L.says.text h) ∙ sym (K.looked t fs H).there-is)

          pub name-used : there ≡ true → NewNames s w c at (refuse AgainstDeclarations x.from)
          name-used e = record { names = λ t fs H. here (taken f t true (taken_is t fs H ∙ e) ∙ must-no false 15 (lex s at).from _ refl) }

          size_is : length (text_of (lex s at).token) ≡ x.to - x.from
          size_is = ap length (L.says.text (simple-from f)) ∙ length-slice x.from x.to s L.inside

          module _ (absent : there ≡ false) where
            unused : (t : Seen) (fs : List Item) → Holding s w c t fs → new_name (λ w. listed core w || is_there t.symbols w) s at ≡ (must (leb (length (text_of (lex s at).token)) 32) 16 (lex s at).from >>= λ _. got (lex s at))
            unused t fs H = taken f t false (taken_is t fs H ∙ absent) ∙ must-yes true 15 (lex s at).from _ refl

            pub name-long : 32 < x.to - x.from → NewNames s w c at (refuse AboveLimit x.from)
            name-long l = record { names = λ t fs H. here (unused t fs H ∙ must-no (leb (length (text_of (lex s at).token)) 32) 16 (lex s at).from _ (leb_no (length (text_of (lex s at).token)) 32 (omega (arith, size_is)))) }

            pub name-new : x.to - x.from ≤ 32 → NewNames s w c at (Ok x)
            name-new l = record {
              names = λ t fs H.
                  let g = name-order f in
                  record {
                    value = lex s at;
                    is = unused t fs H ∙ must-yes (leb (length (text_of (lex s at).token)) 32) 16 (lex s at).from _ (leb_yes (length (text_of (lex s at).token)) 32 (omega (arith, size_is)));
                    holds = record { is = refl; text = L.says.text (simple-from f); behind = L.behind; order = g; on = omega (arith, L.on); inside = L.inside; unused = sym (K.looked t fs H).there-is ∙ absent };
                  };
            }

-- While sorts are read.
pub record Sorting (s u : List ℕ) (start at number kind : ℕ) (x : Lexeme) : Type 0 where
  pub token : Read s at kind x.from x.to
  pub on : start ≤ at
  pub inside : at ≤ length s
  pub few : number + start ≤ at
  pub left : (r : Result Count Refusal) → ((k : ℕ) → length s - at < k → Outcome (sorts_at k s u number at) (Numbered s start) r) → (k : ℕ) → length s - start < k → Outcome (sorts_at k s u 0 start) (Numbered s start) r

pub sorting_start : {s u : List ℕ} {start kind : ℕ} (x : Lexeme) → start ≤ length s → Read s start kind x.from x.to → Sorting s u start start 0 kind x
sorting_start x h L = record { token = L; on = omega arith; inside = h; few = omega arith; left = λ r f. f }

module _ {s u : List ℕ} {start at number kind : ℕ} {x : Lexeme} (S : Sorting s u start at number kind x) where
  module _ (d : kind ≢ 4) where
    open-not : is_closing (lex s at).token ≡ false
    open-not = S.token.says.closes ∙ eqb_no d

    pub sorting-refused : {e : Refusal} → SortRead s u at (Err e) → Sorted s u start (Err e)
    sorting-refused {e} o = record { reads = S.left (Err e) step }
      where
        step : (k : ℕ) → length s - at < k → Outcome (sorts_at k s u number at) (Numbered s start) (Err e)
        step zero l = absurd (omega arith)
        step (suc k) l = either-no (is_closing (lex s at).token) _ _ open-not ∙ then-refused (sort_is u (lex s at)) (λ b. sorts_at k s u (suc number) b) o.out

    pub sorting-on : {y : Lexeme} (z : Lexeme) {kind' : ℕ} → SortRead s u at (Ok y) → Read s y.to kind' z.from z.to → Sorting s u start y.to (number + 1) kind' z
    sorting-on {y} z o M =
        let p = o.out.holds in
        let l = p.on in
        record { token = M; on = omega (arith, S.on); inside = p.inside; few = omega (arith, S.few); left = λ r f. S.left r (step r f) }
      where
        one : (k : ℕ) → sorts_at (suc k) s u number at ≡ sorts_at k s u (number + 1) y.to
        one k =
            let v : o.out.value ≡ y.to = o.out.holds.is in
            either-no (is_closing (lex s at).token) _ _ open-not ∙ then-got (sort_is u (lex s at)) (λ b. sorts_at k s u (suc number) b) o.out.is ∙ rw (v, add-one number) refl

        step : (r : Result Count Refusal) → ((k : ℕ) → length s - y.to < k → Outcome (sorts_at k s u (number + 1) y.to) (Numbered s start) r) → (k : ℕ) → length s - at < k → Outcome (sorts_at k s u number at) (Numbered s start) r
        step r f zero l = absurd (omega arith)
        step r f (suc k) l = as-of (Numbered s start) r (one k) (f k (omega (arith, o.out.holds.on, o.out.holds.inside)))

  pub sorting-closed : kind ≡ 4 → Sorted s u start (Ok (record { number = number; at = x.to }))
  sorting-closed e = record { reads = S.left (Ok (record { number = number; at = x.to })) step }
    where
      step : (k : ℕ) → length s - at < k → Gave (sorts_at k s u number at) (Numbered s start) (record { number = number; at = x.to })
      step zero l = absurd (omega arith)
      step (suc k) l =
          let g = S.token.says.some (λ z. omega arith) in
          record {
            value = record { number = number; behind = next (lex s at) };
            is = either-yes (is_closing (lex s at).token) _ _ (S.token.says.closes ∙ eqb_yes e);
            holds = record { number_is = refl; behind = S.token.behind; on = omega (arith, S.on, S.token.on); inside = S.token.inside };
          }

-- A token that is asked for, in front of what is left to read.
module _ {s : List ℕ} {at kind : ℕ} {B : Type 0} (k : ℕ → Got B) where
  pub wanted-stop : {e : Refusal} → Wanted s at kind (Err e) → (want (asked kind) s at >>= k) ≡ fault (fault_number e.fault) e.place
  wanted-stop W = then-refused (want (asked kind) s at) k W.out

  pub wanted-on : {x : Lexeme} → Wanted s at kind (Ok x) → (want (asked kind) s at >>= k) ≡ k x.to
  wanted-on {x = x} W = let v : W.out.value ≡ x.to = W.out.holds.is in then-got (want (asked kind) s at) k W.out.is ∙ ap k v

-- A token that was asked for has been passed.
pub wanted-passed : {s : List ℕ} {at kind : ℕ} {x : Lexeme} → Wanted s at kind (Ok x) → Passed s at x.to x
wanted-passed W = record { is = refl; place_is = W.out.holds.place_is; on = W.out.holds.on; inside = W.out.holds.inside }
