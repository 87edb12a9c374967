-- What an accepted script is known to say: its terms are built of declared symbols with their numbers of arguments, and its job is within document 01's limits.
-- Assumes nothing.
use Prim.Native.Nat.{ℕ, zero, suc, ◌+◌, ◌<◌, ◌≤◌}
use native.Mathlib.Omega.{arith}
use mathlib.Core.Path.{◌≡◌, refl, sym, ◌∙◌, ap, subst}
use mathlib.Core.Logic.{◌⊎◌, inl, inr}
use mathlib.Core.Bool.{Bool, true, false, cond, not, ◌&&◌, ◌||◌}
use mathlib.Core.List.{List, [], ◌∷◌, ◌++◌, map}
use lib.Dec.{T, eqb, eqb→eq, leb, leb→le, nleb→lt}
use lib.ListN.{length, length-append}
use Rattle.script_terms.specs.Terms.{Term, call, Args, none, more, constant, count, snoc, Among, first, later, Declared, Built, built}
use Rattle.script_terms.specs.Flat.{Part, symbol, applied, curry, spine, has, met}
use Rattle.script_meaning.specs.Tokens.{Lexeme, next, lex, same_bytes, text_of}
use Rattle.script_meaning.specs.Reading.{Got, fault, got, ◌>>=◌, must, either, Symbol, Seen, with_part, find, is_there, takes_of, Found, bare_at, term_at, arguments_at}

module _ {A B : Type 0} where
  pub bound : (g : Got A) (f : A → Got B) {b : B} → (g >>= f) ≡ got b → (a : A) × (g ≡ got a) × (f a ≡ got b)
  unfolding ◌>>=◌
  bound (fault n p) f e = let z : ◌≡◌ {A = ℕ} 0 1 = cc in absurd (omega arith)
  bound (got a) f e = (a, refl, e)

pub held : (b : Bool) (n p : ℕ) {u : Unit {0}} → must b n p ≡ got u → T b
unfolding must
held true n p e = tt
held false n p e = let z : ◌≡◌ {A = ℕ} 0 1 = cc in absurd (omega arith)

pub split : {A : Type 0} (b : Bool) (f g : Unit {0} → A) {a : A} → either b f g ≡ a → (T b × (f tt ≡ a)) ⊎ (T (not b) × (g tt ≡ a))
unfolding either
split true f g e = inl (tt, e)
split false f g e = inr (tt, e)

pub got-one : {A : Type 0} {a b : A} → got a ≡ got b → a ≡ b
got-one e = cc

-- Numbers of arguments.
abbrev pub taking : List Symbol → List ℕ
taking = map (λ x. x.takes)

-- A name that is there is declared.
declared-behind : {n f k : ℕ} {ns : List ℕ} → Declared ns f k → Declared (n ∷ ns) (suc f) k
declared-behind d = record { there = omega (arith, d.there); takes = d.takes }

find-declared : (l : List Symbol) (w : List ℕ) → T (is_there l w) → Declared (taking l) (find l w) (takes_of l w)
find-declared [] w i = absurd i
find-declared (x ∷ l) w i = go (same_bytes x.name w) (find-declared l w) i
  where
    go : (b : Bool) → (T (is_there l w) → Declared (taking l) (find l w) (takes_of l w)) → T (b || is_there l w)
        → Declared (taking (x ∷ l)) (cond b 0 (suc (find l w))) (cond b x.takes (takes_of l w))
    go true f i = record { there = omega arith; takes = refl }
    go false f i = declared-behind (f i)

-- One argument more.
spine-snoc : (ts : Args) (t : Term) (p : Part) → spine (snoc ts t) p ≡ applied (spine ts p) (curry t)
spine-snoc none t p = refl
spine-snoc (more s ss) t p = spine-snoc ss t (applied p (curry s))

none-among : {u : Term} → Among u none → ⊥
none-among i = elim i [ ]

among_one : {u t : Term} → Among u (more t none) → u ≡ t
among_one first = refl
among_one (later i) = absurd (none-among i)

among-snoc : (ts : Args) {t u : Term} → Among u (snoc ts t) → Among u ts ⊎ (u ≡ t)
among-snoc none i = inr (among_one i)
among-snoc (more s ss) {t} {u} i = go i (among-snoc ss)
  where
    on : {s : Term} → Among u ss ⊎ (u ≡ t) → Among u (more s ss) ⊎ (u ≡ t)
    on (inl i) = inl (later i)
    on (inr e) = inr e

    go : {s : Term} → Among u (more s (snoc ss t)) → ((Among u (snoc ss t)) → Among u ss ⊎ (u ≡ t)) → Among u (more s ss) ⊎ (u ≡ t)
    go first f = inl first
    go (later i) f = on (f i)

count-snoc : (ts : Args) (t : Term) → count (snoc ts t) ≡ suc (count ts)
count-snoc none t = refl
count-snoc (more s ss) t = ap suc (count-snoc ss t)

-- Reading a term adds parts, each with its record, and nothing else.
pub record Kept (t u : Seen) : Type 0 where
  pub symbols : u.symbols ≡ t.symbols
  pub records : u.records + length t.parts ≡ t.records + length u.parts
  pub differs : u.differs ≡ t.differs
  pub checks : u.checks ≡ t.checks

kept_same : (t : Seen) → Kept t t
kept_same t = record { symbols = refl; records = refl; differs = refl; checks = refl }

kept_on : {t u v : Seen} → Kept t u → Kept u v → Kept t v
kept_on k l = record { symbols = l.symbols ∙ k.symbols; records = omega (arith, k.records, l.records); differs = l.differs ∙ k.differs; checks = l.checks ∙ k.checks }

kept-part : (t : Seen) (p : Part) → Kept t (with_part p t)
kept-part t p = record { symbols = refl; records = go (has t.parts p); differs = refl; checks = refl }
  where
    go : (b : Bool) → cond b t.records (suc t.records) + length t.parts ≡ t.records + length (cond b t.parts (t.parts ++ p ∷ []))
    go true = refl
    go false = simp length-append (omega arith)

pub record Fine (t : Seen) (r : Found) : Type 0 where
  pub kept : Kept t r.seen
  pub parts : r.seen.parts ≡ met t.parts (curry r.term)
  pub term : Built (taking t.symbols) r.term

three : (a b c : Bool) → T (a && b && c) → T a × T b × T c
three true true true t = (tt, tt, tt)
three true true false t = absurd t
three true false true t = absurd t
three true false false t = absurd t
three false true true t = absurd t
three false true false t = absurd t
three false false true t = absurd t
three false false false t = absurd t

bare-fine : (t : Seen) (d : ℕ) (extra : Bool) (x : Lexeme) {r : Found} → bare_at t d extra x ≡ got r → Fine t r × T (not extra)
bare-fine t d extra x {r} e =
    let a = bound _ _ e in
    let b = bound _ _ a.2 in
    let c = bound _ _ b.2 in
    let w = text_of x.token in
    let h = three (is_there t.symbols w) (not extra) (eqb (takes_of t.symbols w) 0) (held _ _ _ b.1) in
    let z : takes_of t.symbols w ≡ 0 = eqb→eq _ _ h.2 in
    let q = find-declared t.symbols w h.0 in
    let f : Fine t (record { term = constant (find t.symbols w); seen = t; last = x.from; behind = next x }) =
    record { kept = kept_same t; parts = refl; term = built (record { there = q.there; takes = q.takes ∙ z }) (λ u i. absurd (none-among i)) } in
    (subst (λ r. Fine t r) (got-one c.2) f, h.1)

-- What is known while the arguments of a symbol are read, with ts of them read: t₀ was seen before the term.
record Underway (t₀ t : Seen) (f wants : ℕ) (ts : Args) : Type 0 where
  kept : Kept t₀ t
  parts : t.parts ≡ met t₀.parts (curry (call f ts))
  declared : Declared (taking t₀.symbols) f wants
  arguments : (u : Term) → Among u ts → Built (taking t₀.symbols) u
  few : count ts ≤ wants

underway-done : {t₀ t : Seen} {f wants : ℕ} {ts : Args} (l b : ℕ) → Underway t₀ t f wants ts → wants ≤ count ts → Fine t₀ (record { term = call f ts; seen = t; last = l; behind = b })
underway-done {wants = wants} {ts = ts} l b U h =
    let e : wants ≡ count ts = omega (arith, U.few) in
    record { kept = U.kept; parts = U.parts; term = built (rw e at U.declared) U.arguments }

underway-on : {t₀ t : Seen} {f wants : ℕ} {ts : Args} {r : Found} → Underway t₀ t f wants ts → Fine t r → count ts < wants
    → Underway t₀ (with_part (curry (call f (snoc ts r.term))) r.seen) f wants (snoc ts r.term)
underway-on {t₀} {t} {f} {wants} {ts} {r} U F h = record {
  kept = kept_on U.kept (kept_on F.kept (kept-part r.seen (curry (call f (snoc ts r.term)))));
  parts = rw (spine-snoc ts r.term (symbol f), F.parts, U.parts) refl;
  declared = U.declared;
  arguments = λ u i. go (among-snoc ts i);
  few = rw (count-snoc ts r.term) h;
}
  where
    new : Built (taking t₀.symbols) r.term
    new = rw U.kept.symbols at F.term

    go : {u : Term} → Among u ts ⊎ (u ≡ r.term) → Built (taking t₀.symbols) u
    go {u} (inl i) = U.arguments u i
    go (inr e) = rw e new

mutual
  pub term-fine : (n : ℕ) (s : List ℕ) (t : Seen) (d : ℕ) (extra : Bool) (x : Lexeme) {r : Found} → term_at n s t d extra x ≡ got r → Fine t r × T (not extra)
  term-fine zero s t d extra x e = let z : ◌≡◌ {A = ℕ} 0 1 = cc in absurd (omega arith)
  term-fine (suc n) s t d extra x {r} e = elim (split _ _ _ e) [
    | inl h ↦
        let a = bound _ _ h.1 in
        let b = bound _ _ a.2 in
        let c = bound _ _ b.2 in
        let g = bound _ _ c.2 in
        let w = text_of (lex s (next x)).token in (
          arguments-fine n s t d (find t.symbols w) (takes_of t.symbols w) none (next (lex s (next x))) t
              (record { kept = kept_same t; parts = refl; declared = find-declared t.symbols w (held _ _ _ g.1); arguments = λ u i. absurd (none-among i); few = omega arith }) g.2,
          held _ _ _ a.1,
        )
    | inr h ↦ bare-fine t d extra x h.1
  ]

  arguments-fine : (n : ℕ) (s : List ℕ) (t : Seen) (d f wants : ℕ) (ts : Args) (at : ℕ) (t₀ : Seen) → Underway t₀ t f wants ts → {r : Found} → arguments_at n s t d f wants ts at ≡ got r → Fine t₀ r
  arguments-fine zero s t d f wants ts at t₀ U e = let z : ◌≡◌ {A = ℕ} 0 1 = cc in absurd (omega arith)
  arguments-fine (suc n) s t d f wants ts at t₀ U {r} e = elim (split _ _ _ e) [
    | inl h ↦
        let a = bound _ _ h.1 in
        let b = bound _ _ a.2 in
        let c = bound _ _ b.2 in
        subst (λ r. Fine t₀ r) (got-one c.2) (underway-done (lex s at).from (next (lex s at)) U (leb→le wants (count ts) (held _ _ _ b.1)))
    | inr h ↦
        let a = bound _ _ h.1 in
        let b = bound _ _ a.2 in
        let c = bound _ _ b.1 in
        let q = a.0 in
        let F = term-fine n s t (suc d) (leb wants (count ts)) (lex s at) a.1 in
        let u = with_part (curry (call f (snoc ts q.term))) q.seen in
        arguments-fine n s u d f wants (snoc ts q.term) q.behind t₀ (underway-on U F.0 (nleb→lt wants (count ts) F.1))
        (subst (λ v. arguments_at n s v d f wants (snoc ts q.term) q.behind ≡ got r) (sym (got-one c.2)) b.2)
  ]
