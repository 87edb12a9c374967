-- Each return and each turn of the two readers that call each other, as a law: what is left to read answers for the whole. Assumes nothing.
use Prim.Native.Nat.{ℕ, zero, suc, ◌-◌, ◌≤◌, ◌<◌}
use native.Mathlib.Omega.{arith}
use mathlib.Core.Path.{◌≡◌, refl, sym, ◌∙◌, ap, subst}
use mathlib.Core.Logic.{◌≢◌}
use mathlib.Core.Bool.{Bool, true, false, ◌||◌}
use mathlib.Core.List.{List, ◌++◌, append-nil}
use lib.Dec.{eqb, ltb, leb}
use lib.ListN.{length}
use lib.Seq.{drop-length}
use Rattle.script_terms.proofs.Tests.{leb_no, leb_yes}
use Rattle.script_terms.specs.Terms.{Term, call, Args, none, count, snoc, constant}
use Rattle.script_terms.specs.Flat.{applied, curry, Item}
use Rattle.script_meaning.specs.Tokens.{Lexeme, next, lex, text_of}
use Rattle.script_meaning.specs.Reading.{Got, fault, got, ◌>>=◌, either, must, Seen, with_part, fits, is_opening, is_closing, is_own, is_there, find, takes_of, Found, partial, term_at, arguments_at}
use Rattle.script_terms.proofs.Lists.{grown-same}
use Rattle.script_terms.proofs.Known.{Known, leaf, known_grown}
use Rattle.script_shelf.specs.declared.Counts.{Counts}
use Rattle.script_parts.specs.Meet.{new_parts}
use Rattle.script_join.specs.Promises.{Joined, Start, Wrote, TermRead, refused, found, Going}
use Rattle.script_join.proofs.Laws.{curry-snoc, count-snoc, known_joined, wrote_on, met-wrote, partial-got, partial-fault}

pub wrote_none : (t : Seen) (fs : List Item) → Wrote t t fs fs
wrote_none t fs = record { grown = grown-same t.parts; fields = rw (drop-length t.parts, append-nil fs) }

-- The loop begins.
pub going_start : {s w : List ℕ} {c : Counts} {t : Seen} {fs : List Item} (d f wants from : ℕ) → Start s w c t fs → f < 1001 → from ≤ length s → Going s w t fs d f wants from w c 0 f from
going_start {s} {w} {c} {t} {fs} d f wants from S h i = record {
  args = none;
  now = t;
  fields = fs;
  size = refl;
  holding = S.holding;
  within = λ b. S.within;
  wrote = wrote_none t fs;
  count-is = refl;
  most = omega arith;
  number_is = refl;
  known = leaf h;
  on = omega arith;
  inside = i;
  left = λ a g k b. g k b;
}

-- One step of the definition.
module _ (s : List ℕ) (t : Seen) (d f wants : ℕ) (ts : Args) (at n : ℕ) where
  pub step-closing : is_closing (lex s at).token ≡ true → arguments_at (suc n) s t d f wants ts at
      ≡ (must (ltb 0 (count ts)) 14 (lex s at).from >>= λ _. must (leb wants (count ts)) 15 (lex s at).from >>= λ _. must (fits t) 16 (lex s at).from >>= λ _. got (record { term = call f ts; seen = t; last = (lex s at).from; behind = next (lex s at) }))
  unfolding either
  step-closing e = rw e

  pub step-fault : {m p : ℕ} → is_closing (lex s at).token ≡ false → term_at n s t (suc d) (leb wants (count ts)) (lex s at) ≡ fault m p → arguments_at (suc n) s t d f wants ts at ≡ fault m p
  unfolding either ◌>>=◌
  step-fault e g = rw (e, g)

  pub step-found : (r : Found) → is_closing (lex s at).token ≡ false → term_at n s t (suc d) (leb wants (count ts)) (lex s at) ≡ got r
      → arguments_at (suc n) s t d f wants ts at ≡ (partial wants (suc (count ts)) r (call f (snoc ts r.term)) >>= λ u. arguments_at n s u d f wants (snoc ts r.term) r.behind)
  unfolding either ◌>>=◌
  step-found r e g = rw (e, g)

  pub close-none : is_closing (lex s at).token ≡ true → ltb 0 (count ts) ≡ false → arguments_at (suc n) s t d f wants ts at ≡ fault 14 (lex s at).from
  unfolding either must ◌>>=◌
  close-none e a = rw (e, a)

  pub close-few : is_closing (lex s at).token ≡ true → ltb 0 (count ts) ≡ true → leb wants (count ts) ≡ false → arguments_at (suc n) s t d f wants ts at ≡ fault 15 (lex s at).from
  unfolding either must ◌>>=◌
  close-few e a b = rw (e, a, b)

  pub close-over : is_closing (lex s at).token ≡ true → ltb 0 (count ts) ≡ true → leb wants (count ts) ≡ true → fits t ≡ false → arguments_at (suc n) s t d f wants ts at ≡ fault 16 (lex s at).from
  unfolding either must ◌>>=◌
  close-over e a b g = rw (e, a, b, g)

  pub close-good : is_closing (lex s at).token ≡ true → ltb 0 (count ts) ≡ true → leb wants (count ts) ≡ true → fits t ≡ true
      → arguments_at (suc n) s t d f wants ts at ≡ got (record { term = call f ts; seen = t; last = (lex s at).from; behind = next (lex s at) })
  unfolding either must ◌>>=◌
  close-good e a b g = rw (e, a, b, g)

bind-got : {A B : Type 0} (a : A) (f : A → Got B) → (got a >>= f) ≡ f a
unfolding ◌>>=◌
bind-got a f = refl

bind-fault : {A B : Type 0} (n p : ℕ) (f : A → Got B) → (fault n p >>= f) ≡ fault n p
unfolding ◌>>=◌
bind-fault n p f = refl

module _ {s w : List ℕ} {t : Seen} {fs : List Item} {d f wants from : ℕ} {w' : List ℕ} {c' : Counts} {have number at : ℕ} (G : Going s w t fs d f wants from w' c' have number at) where
  -- A refusal of what is left is a refusal of the whole.
  pub refuse : {w'' : List ℕ} {c'' : Counts} {n place number' last at' : ℕ} → (14 ≤ n) × (n ≤ 16) → length w'' ≡ length w' → ((k : ℕ) → length s - at < k → arguments_at k s G.now d f wants G.args at ≡ fault n place)
      → TermRead s w t fs (length s - from) (λ k. arguments_at k s t d f wants none from) w'' c'' n place number' last at'
  refuse {n = n} {place = place} b z h = refused b (z ∙ G.size) (G.left (fault n place) h)

  not-whole : have < wants → leb wants (count G.args) ≡ false
  not-whole h = leb_no wants (count G.args) (omega (arith, G.count-is))

  -- A term that is refused.
  pub term-refused : {w'' : List ℕ} {c'' : Counts} {n place x y z : ℕ} → have < wants → is_closing (lex s at).token ≡ false → at < next (lex s at) → next (lex s at) ≤ length s
      → TermRead s w' G.now G.fields (length s - next (lex s at)) (λ k. term_at k s G.now (suc d) false (lex s at)) w'' c'' n place x y z → n ≢ 0
      → {number' last at' : ℕ} → TermRead s w t fs (length s - from) (λ k. arguments_at k s t d f wants none from) w'' c'' n place number' last at'
  term-refused {n = n} {place = place} h e m i (refused b z r) q = refuse b z go
    where
      go : (k : ℕ) → length s - at < k → arguments_at k s G.now d f wants G.args at ≡ fault n place
      go zero l = absurd (omega arith)
      go (suc k) l = step-fault s G.now d f wants G.args at k e (rw (not-whole h) (r k (omega arith)))
  term-refused h e m i (found x t' fs' z r S W a K o v) q = absurd (q refl)

  -- A term that is found, and its part joined.
  pub term-joined : {w'' w''' : List ℕ} {c'' c''' : Counts} {last at' number' : ℕ} {whole : Bool} → have < wants → is_closing (lex s at).token ≡ false → at < next (lex s at) → next (lex s at) ≤ length s → whole ≡ leb wants (suc have)
      → (x : Term) (t' : Seen) (fs' : List Item) → length w'' ≡ length w' → ((k : ℕ) → length s - next (lex s at) < k → term_at k s G.now (suc d) false (lex s at) ≡ got (record { term = x; seen = t'; last = last; behind = at' }))
      → Start s w'' c'' t' fs' → Wrote G.now t' G.fields fs' → Known 1001 t'.parts (curry x) → at' ≤ length s → length s - at' ≤ length s - next (lex s at)
      → Joined s w'' w''' c''' t' fs' (curry (call f G.args)) (curry x) whole true number' → Going s w t fs d f wants from w''' c''' (suc have) number' at'
  term-joined {w''} {w'''} {c''} {c'''} {last} {at'} {number'} {whole} h e m i y x t' fs' z r S W K o v J =
      let p = curry (call f G.args) in
      let u = with_part (applied p (curry x)) t' in
      let known : Known 1001 t'.parts p = known_grown W.grown G.known in
      let test : (leb wants (suc (count G.args)) || fits u) ≡ true = ap (λ k. leb wants (suc k) || fits u) (sym G.count-is) ∙ ap (λ b. b || fits u) (sym y) ∙ sym J.within-is in
      let first : curry (call f (snoc G.args x)) ≡ applied p (curry x) = curry-snoc f G.args x in
      record {
        args = snoc G.args x;
        now = u;
        fields = fs' ++ new_parts t'.parts u.parts;
        size = J.met.size ∙ z ∙ G.size;
        holding = J.met.holding;
        within = λ b. sym (ap (λ b. b || fits u) (y ∙ leb_no wants (suc have) b)) ∙ sym J.within-is;
        wrote = wrote_on S.holding.stands (wrote_on G.holding.stands G.wrote W) (met-wrote J.met);
        count-is = ap suc G.count-is ∙ sym (count-snoc G.args x);
        most = h;
        number_is = rw first J.met.is;
        known = rw first (known_joined known K);
        on = omega (arith, G.on);
        inside = o;
        left = λ answer g. G.left answer (go answer g test);
      }
    where
      go : (answer : Got Found) → ((k : ℕ) → length s - at' < k → arguments_at k s (with_part (applied (curry (call f G.args)) (curry x)) t') d f wants (snoc G.args x) at' ≡ answer)
          → (leb wants (suc (count G.args)) || fits (with_part (applied (curry (call f G.args)) (curry x)) t')) ≡ true → (k : ℕ) → length s - at < k → arguments_at k s G.now d f wants G.args at ≡ answer
      go answer g q zero l = absurd (omega arith)
      go answer g q (suc k) l =
          step-found s G.now d f wants G.args at k (record { term = x; seen = t'; last = last; behind = at' }) e (rw (not-whole h) (r k (omega arith)))
          ∙ ap (λ y. y >>= λ u. arguments_at k s u d f wants (snoc G.args x) at') (partial-got wants (suc (count G.args)) (record { term = x; seen = t'; last = last; behind = at' }) f G.args x q)
          ∙ bind-got (with_part (applied (curry (call f G.args)) (curry x)) t') (λ u. arguments_at k s u d f wants (snoc G.args x) at') ∙ g k (omega arith)

  -- .. or passes a limit.
  pub term-over : {w'' w''' : List ℕ} {c''' : Counts} {last at' number' : ℕ} {whole : Bool} → have < wants → is_closing (lex s at).token ≡ false → at < next (lex s at) → next (lex s at) ≤ length s → whole ≡ leb wants (suc have)
      → (x : Term) (t' : Seen) (fs' : List Item) → length w'' ≡ length w' → ((k : ℕ) → length s - next (lex s at) < k → term_at k s G.now (suc d) false (lex s at) ≡ got (record { term = x; seen = t'; last = last; behind = at' }))
      → Joined s w'' w''' c''' t' fs' (curry (call f G.args)) (curry x) whole false number'
      → {n y z : ℕ} {c'''' : Counts} → TermRead s w t fs (length s - from) (λ k. arguments_at k s t d f wants none from) w''' c'''' 16 last n y z
  term-over {w''} {w'''} {c'''} {last} {at'} {number'} {whole} h e m i y x t' fs' z r J =
      let u = with_part (applied (curry (call f G.args)) (curry x)) t' in
      let test : (leb wants (suc (count G.args)) || fits u) ≡ false = ap (λ k. leb wants (suc k) || fits u) (sym G.count-is) ∙ ap (λ b. b || fits u) (sym y) ∙ sym J.within-is in
      refuse (omega arith, omega arith) (J.met.size ∙ z) (go test)
    where
      go : (leb wants (suc (count G.args)) || fits (with_part (applied (curry (call f G.args)) (curry x)) t')) ≡ false → (k : ℕ) → length s - at < k → arguments_at k s G.now d f wants G.args at ≡ fault 16 last
      go q zero l = absurd (omega arith)
      go q (suc k) l =
          step-found s G.now d f wants G.args at k (record { term = x; seen = t'; last = last; behind = at' }) e (rw (not-whole h) (r k (omega arith)))
          ∙ ap (λ y. y >>= λ u. arguments_at k s u d f wants (snoc G.args x) at') (partial-fault wants (suc (count G.args)) (record { term = x; seen = t'; last = last; behind = at' }) f G.args x q)
          ∙ bind-fault 16 last (λ u. arguments_at k s u d f wants (snoc G.args x) at')

  -- The closing parenthesis, too early or in its place.
  module _ (e : is_closing (lex s at).token ≡ true) where
    no-count : have ≡ 0 → ltb 0 (count G.args) ≡ false
    no-count q = subst (λ k. ltb 0 k ≡ false) (sym q ∙ G.count-is) refl

    some-count : have ≢ 0 → ltb 0 (count G.args) ≡ true
    some-count q = leb_yes 1 (count G.args) (omega (arith, G.count-is))

    pub closed_none : {c'' : Counts} {n y z : ℕ} → have ≡ 0 → TermRead s w t fs (length s - from) (λ k. arguments_at k s t d f wants none from) w' c'' 14 (lex s at).from n y z
    closed_none q = refuse (omega arith, omega arith) refl go
      where
        go : (k : ℕ) → length s - at < k → arguments_at k s G.now d f wants G.args at ≡ fault 14 (lex s at).from
        go zero l = absurd (omega arith)
        go (suc k) l = close-none s G.now d f wants G.args at k e (no-count q)

    pub closed-few : {c'' : Counts} {n y z : ℕ} → have ≢ 0 → have < wants → TermRead s w t fs (length s - from) (λ k. arguments_at k s t d f wants none from) w' c'' 15 (lex s at).from n y z
    closed-few q h = refuse (omega arith, omega arith) refl go
      where
        go : (k : ℕ) → length s - at < k → arguments_at k s G.now d f wants G.args at ≡ fault 15 (lex s at).from
        go zero l = absurd (omega arith)
        go (suc k) l = close-few s G.now d f wants G.args at k e (some-count q) (not-whole h)

    all_there : wants ≤ have → leb wants (count G.args) ≡ true
    all_there h = leb_yes wants (count G.args) (omega (arith, G.count-is))

    pub closed-over : {c'' : Counts} {n y z : ℕ} → have ≢ 0 → wants ≤ have → fits G.now ≡ false → TermRead s w t fs (length s - from) (λ k. arguments_at k s t d f wants none from) w' c'' 16 (lex s at).from n y z
    closed-over q h g = refuse (omega arith, omega arith) refl go
      where
        go : (k : ℕ) → length s - at < k → arguments_at k s G.now d f wants G.args at ≡ fault 16 (lex s at).from
        go zero l = absurd (omega arith)
        go (suc k) l = close-over s G.now d f wants G.args at k e (some-count q) (all_there h) g

    pub closed-good : have ≢ 0 → wants ≤ have → fits G.now ≡ true → next (lex s at) ≤ length s → at ≤ next (lex s at)
        → TermRead s w t fs (length s - from) (λ k. arguments_at k s t d f wants none from) w' c' 0 0 number (lex s at).from (next (lex s at))
    closed-good q h g i m = found (call f G.args) G.now G.fields G.size (G.left (got (record { term = call f G.args; seen = G.now; last = (lex s at).from; behind = next (lex s at) })) go)
        (record { holding = G.holding; within = g }) G.wrote G.number_is G.known i (omega (arith, G.on))
      where
        go : (k : ℕ) → length s - at < k → arguments_at k s G.now d f wants G.args at ≡ got (record { term = call f G.args; seen = G.now; last = (lex s at).from; behind = next (lex s at) })
        go zero l = absurd (omega arith)
        go (suc k) l = close-good s G.now d f wants G.args at k e (some-count q) (all_there h) g

  -- Another token where the closing parenthesis is due, or the end: refused by its first token.
  pub surplus : {c'' : Counts} {m n y z : ℕ} → is_closing (lex s at).token ≡ false → (14 ≤ m) × (m ≤ 16) → ((k : ℕ) → length s - at ≤ k → term_at k s G.now (suc d) (leb wants (count G.args)) (lex s at) ≡ fault m (lex s at).from)
      → TermRead s w t fs (length s - from) (λ k. arguments_at k s t d f wants none from) w' c'' m (lex s at).from n y z
  surplus {m = m} e b r = refuse b refl go
    where
      go : (k : ℕ) → length s - at < k → arguments_at k s G.now d f wants G.args at ≡ fault m (lex s at).from
      go zero l = absurd (omega arith)
      go (suc k) l = step-fault s G.now d f wants G.args at k e (r k (omega arith))

-- The term reader: a compound term ..
module _ (s : List ℕ) (t : Seen) (d : ℕ) (x : Lexeme) where
  pub term-deep : (n : ℕ) → is_opening x.token ≡ true → leb d 32 ≡ false → term_at (suc n) s t d false x ≡ fault 16 x.from
  unfolding either must ◌>>=◌
  term-deep n e g = rw (e, g)

  pub term-outside : (n : ℕ) → is_opening x.token ≡ true → leb d 32 ≡ true → is_own (lex s (next x)).token ≡ false → term_at (suc n) s t d false x ≡ fault 14 (lex s (next x)).from
  unfolding either must ◌>>=◌
  term-outside n e g o = rw (e, g, o)

  pub term-undeclared : (n : ℕ) → is_opening x.token ≡ true → leb d 32 ≡ true → is_own (lex s (next x)).token ≡ true → is_there t.symbols (text_of (lex s (next x)).token) ≡ false → term_at (suc n) s t d false x ≡ fault 15 (lex s (next x)).from
  unfolding either must ◌>>=◌
  term-undeclared n e g o i = rw (e, g, o, i)

  pub term-on : (n : ℕ) → is_opening x.token ≡ true → leb d 32 ≡ true → is_own (lex s (next x)).token ≡ true → is_there t.symbols (text_of (lex s (next x)).token) ≡ true
      → term_at (suc n) s t d false x ≡ arguments_at n s t d (find t.symbols (text_of (lex s (next x)).token)) (takes_of t.symbols (text_of (lex s (next x)).token)) none (next (lex s (next x)))
  unfolding either must ◌>>=◌
  term-on n e g o i = rw (e, g, o, i)

  -- .. and a bare name.
  pub bare-outside : (n : ℕ) → is_opening x.token ≡ false → is_own x.token ≡ false → term_at (suc n) s t d false x ≡ fault 14 x.from
  unfolding either must ◌>>=◌
  bare-outside n e o = rw (e, o)

  pub bare-undeclared : (n : ℕ) → is_opening x.token ≡ false → is_own x.token ≡ true → is_there t.symbols (text_of x.token) ≡ false → term_at (suc n) s t d false x ≡ fault 15 x.from
  unfolding either must ◌>>=◌
  bare-undeclared n e o i = rw (e, o, i)

  pub bare-takes : (n : ℕ) → is_opening x.token ≡ false → is_own x.token ≡ true → is_there t.symbols (text_of x.token) ≡ true → eqb (takes_of t.symbols (text_of x.token)) 0 ≡ false → term_at (suc n) s t d false x ≡ fault 15 x.from
  unfolding either must ◌>>=◌
  bare-takes n e o i k = rw (e, o, i, k)

  pub bare-deep : (n : ℕ) → is_opening x.token ≡ false → is_own x.token ≡ true → is_there t.symbols (text_of x.token) ≡ true → eqb (takes_of t.symbols (text_of x.token)) 0 ≡ true → leb d 32 ≡ false → term_at (suc n) s t d false x ≡ fault 16 x.from
  unfolding either must ◌>>=◌
  bare-deep n e o i k g = rw (e, o, i, k, g)

  pub bare-found : (n : ℕ) → is_opening x.token ≡ false → is_own x.token ≡ true → is_there t.symbols (text_of x.token) ≡ true → eqb (takes_of t.symbols (text_of x.token)) 0 ≡ true → leb d 32 ≡ true
      → term_at (suc n) s t d false x ≡ got (record { term = constant (find t.symbols (text_of x.token)); seen = t; last = x.from; behind = next x })
  unfolding either must ◌>>=◌
  bare-found n e o i k g = rw (e, o, i, k, g)
