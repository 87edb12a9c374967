-- What an accepted script says, command by command: its terms are built of the symbols declared before them, and its job is within document 01's limits. So the
-- promise holds of every script that is accepted. Assumes nothing.
use Prim.Native.Nat.{ℕ, zero, suc, ◌+◌}
use native.Mathlib.Omega.{arith}
use mathlib.Core.Path.{◌≡◌, refl, sym, ◌∙◌, ap, subst}
use mathlib.Core.Logic.{◌⊎◌, inl, inr}
use mathlib.Core.Bool.{false}
use mathlib.Core.List.Memᴰ
use mathlib.Core.List.{List, [], ◌∷◌, ◌++◌, append_assoc, append-nil}
use lib.Dec.{T}
use lib.ListN.{length, get_or-append, length-append}
use Rattle.script_terms.specs.Terms.{Term, Command, declare, equal, differ, check, arities_of, Asserted, equal-left, equal-right, differ-left, differ-right, Declared, Built, built, equals_of, differs_of, checks_of}
use Rattle.script_terms.specs.Flat.{curry, met, after, parts_from}
use Rattle.script_meaning.specs.Tokens.{next, lex, text_of}
use Rattle.script_meaning.specs.Reading.{got, Symbol, Seen, fits, with_symbol, with_record, with_differ, with_check, Done, done, Sides, sides, declare_function, assertion, command, commands_at, nothing, reading}
use Rattle.script_terms.specs.Promise.{Promised}
use Rattle.script_meaning.proofs.Accepted.{bound, held, split, got-one, taking, Kept, term-fine}
use Rattle.script_terms.proofs.Promise.{promise-all}

-- More declarations spoil no term.
declared-more : {ns : List ℕ} (ms : List ℕ) {f n : ℕ} → Declared ns f n → Declared (ns ++ ms) f n
declared-more {ns} ms {f} d = record { there = omega (arith, d.there, length-append ns ms); takes = get_or-append ns ms 0 f d.there ∙ d.takes }

built-more : {ns : List ℕ} (ms : List ℕ) {t : Term} → Built ns t → Built (ns ++ ms) t
built-more ms (built d h) = built (declared-more ms d) (λ t i. built-more ms (h t i))

-- The sides of one command's assertion.
pub data Side (v : Term) : Command → Type 0 where
  left-equal : {u : Term} → Side v (equal v u)
  right-equal : {u : Term} → Side v (equal u v)
  left-differ : {u : Term} → Side v (differ v u)
  right-differ : {u : Term} → Side v (differ u v)

asserted-cases : {c : Command} {cs : List Command} {v : Term} → Asserted (c ∷ cs) v → Side v c ⊎ Asserted cs v
asserted-cases {c} {cs} {v} (equal-left i) = elim (Memᴰ.cases_cons i) [ inl e ↦ inl (rw (sym e) left-equal) | inr j ↦ inr (equal-left j) ]
asserted-cases {c} {cs} {v} (equal-right i) = elim (Memᴰ.cases_cons i) [ inl e ↦ inl (rw (sym e) right-equal) | inr j ↦ inr (equal-right j) ]
asserted-cases {c} {cs} {v} (differ-left i) = elim (Memᴰ.cases_cons i) [ inl e ↦ inl (rw (sym e) left-differ) | inr j ↦ inr (differ-left j) ]
asserted-cases {c} {cs} {v} (differ-right i) = elim (Memᴰ.cases_cons i) [ inl e ↦ inl (rw (sym e) right-differ) | inr j ↦ inr (differ-right j) ]

-- One command.
pub record Stepped (t : Seen) (c : Command) (u : Seen) : Type 0 where
  pub arities : taking u.symbols ≡ taking t.symbols ++ arities_of (c ∷ [])
  pub parts : u.parts ≡ after t.parts c
  pub records : u.records + length t.parts ≡ t.records + equals_of (c ∷ []) + length u.parts
  pub differs : u.differs ≡ t.differs + differs_of (c ∷ [])
  pub checks : u.checks ≡ t.checks + checks_of (c ∷ [])
  pub terms : (v : Term) → Side v c → Built (taking t.symbols) v
  pub within : T (fits u)

-- A command's own end.
done-is : (c : Command) (t : Seen) (s : List ℕ) (at : ℕ) {r : Done} → done c t s at ≡ got r → (r.command ≡ c) × (r.seen ≡ t) × T (fits t)
done-is c t s at {r} e =
    let a = bound _ _ e in
    let b = bound _ _ a.2 in
    let z = got-one b.2 in
    (ap (λ r. r.command) (sym z), ap (λ r. r.seen) (sym z), held _ _ _ b.1)

stepped-as : {t u v : Seen} {c d : Command} → d ≡ c → v ≡ u → Stepped t c u → Stepped t d v
stepped-as e f q = rw (e, f) q

built-as : {l m : List Symbol} {t : Term} → m ≡ l → Built (taking m) t → Built (taking l) t
built-as e b = rw e at b

taking-more : (l : List Symbol) (x : Symbol) → taking (l ++ x ∷ []) ≡ taking l ++ x.takes ∷ []
taking-more [] x = refl
taking-more (y ∷ l) x = ap (λ ns. y.takes ∷ ns) (taking-more l x)

declare-stepped : (s u : List ℕ) (t : Seen) (at : ℕ) {r : Done} → declare_function s u t at ≡ got r → Stepped t r.command r.seen
declare-stepped s u t at {r} e =
    let a = bound _ _ e in
    let b = bound _ _ a.2 in
    let c = bound _ _ b.2 in
    let d = bound _ _ c.2 in
    let x : Symbol = record { name = text_of a.0.token; takes = c.0.number } in
    let z = done-is (declare c.0.number) (with_symbol x t) s d.0 d.2 in
    let q : Stepped t (declare c.0.number) (with_symbol x t) = record {
      arities = taking-more t.symbols x;
      parts = refl;
      records = omega arith;
      differs = omega arith;
      checks = omega arith;
      terms = λ v i. elim i [ ];
      within = z.2;
    } in
    stepped-as z.0 z.1 q

-- Both sides of an equality.
record Fined (t : Seen) (e : Sides) : Type 0 where
  kept : Kept t e.seen
  parts : e.seen.parts ≡ met (met t.parts (curry e.left)) (curry e.right)
  left : Built (taking t.symbols) e.left
  right : Built (taking t.symbols) e.right

sides-fine : (s : List ℕ) (t : Seen) (at : ℕ) {e : Sides} → sides s t at ≡ got e → Fined t e
sides-fine s t at {e} h =
    let a = bound _ _ h in
    let b = bound _ _ a.2 in
    let c = bound _ _ b.2 in
    let F = (term-fine (suc (length s)) s t 1 false (lex s at) a.1).0 in
    let G = (term-fine (suc (length s)) s a.0.seen 1 false (lex s a.0.behind) b.1).0 in
    subst (λ e. Fined t e) (got-one c.2) (record {
      kept = record {
        symbols = G.kept.symbols ∙ F.kept.symbols;
        records = omega (arith, F.kept.records, G.kept.records);
        differs = G.kept.differs ∙ F.kept.differs;
        checks = G.kept.checks ∙ F.kept.checks;
      };
      parts = rw (G.parts, F.parts) refl;
      left = F.term;
      right = built-as F.kept.symbols G.term;
    })

equal-stepped : {t : Seen} {e : Sides} → Fined t e → T (fits (with_record e.seen)) → Stepped t (equal e.left e.right) (with_record e.seen)
equal-stepped {t} {e} F h = record {
  arities = rw F.kept.symbols (sym (append-nil (taking t.symbols)));
  parts = F.parts;
  records = omega (arith, F.kept.records);
  differs = omega (arith, F.kept.differs);
  checks = omega (arith, F.kept.checks);
  terms = λ v i. go v i;
  within = h;
}
  where
    go : (v : Term) → Side v (equal e.left e.right) → Built (taking t.symbols) v
    go v left-equal = F.left
    go v right-equal = F.right

differ-stepped : {t : Seen} {e : Sides} → Fined t e → T (fits (with_differ e.seen)) → Stepped t (differ e.left e.right) (with_differ e.seen)
differ-stepped {t} {e} F h = record {
  arities = rw F.kept.symbols (sym (append-nil (taking t.symbols)));
  parts = F.parts;
  records = omega (arith, F.kept.records);
  differs = omega (arith, F.kept.differs);
  checks = omega (arith, F.kept.checks);
  terms = λ v i. go v i;
  within = h;
}
  where
    go : (v : Term) → Side v (differ e.left e.right) → Built (taking t.symbols) v
    go v left-differ = F.left
    go v right-differ = F.right

assertion-stepped : (s : List ℕ) (t : Seen) (at : ℕ) {r : Done} → assertion s t at ≡ got r → Stepped t r.command r.seen
assertion-stepped s t at {r} h =
    let o = bound _ _ h in
    elim (split _ _ _ o.2) [
      | inl p ↦
          let a = bound _ _ p.1 in
          let z = done-is (equal a.0.left a.0.right) (with_record a.0.seen) s a.0.behind a.2 in
          stepped-as z.0 z.1 (equal-stepped (sides-fine s t (next (lex s o.0)) a.1) z.2)
      | inr p ↦
          let a = bound _ _ p.1 in
          let b = bound _ _ a.2 in
          let c = bound _ _ b.2 in
          let d = bound _ _ c.2 in
          let g = bound _ _ d.2 in
          let z = done-is (differ d.0.left d.0.right) (with_differ d.0.seen) s g.0 g.2 in
          stepped-as z.0 z.1 (differ-stepped (sides-fine s t c.0 d.1) z.2)
    ]

check-stepped : (s : List ℕ) (t : Seen) (at : ℕ) {r : Done} → done check (with_check t) s at ≡ got r → Stepped t r.command r.seen
check-stepped s t at {r} h =
    let z = done-is check (with_check t) s at h in
    let q : Stepped t check (with_check t) = record {
      arities = sym (append-nil (taking t.symbols));
      parts = refl;
      records = omega arith;
      differs = omega arith;
      checks = omega arith;
      terms = λ v i. elim i [ ];
      within = z.2;
    } in
    stepped-as z.0 z.1 q

pub command-stepped : (s u : List ℕ) (t : Seen) (at : ℕ) {r : Done} → command s u t at ≡ got r → Stepped t r.command r.seen
command-stepped s u t at {r} h = elim (split _ _ _ h) [
  | inl p ↦ declare-stepped s u t (next (lex s at)) p.1
  | inr p ↦ elim (split _ _ _ p.1) [
    | inl q ↦ assertion-stepped s t (next (lex s at)) q.1
    | inr q ↦ let a = bound _ _ q.1 in check-stepped s t (next (lex s at)) a.2
  ]
]

-- All that an accepted script says from a place on.
pub record Said (t : Seen) (cs : List Command) : Type 0 where
  pub last : Seen
  pub arities : taking last.symbols ≡ taking t.symbols ++ arities_of cs
  pub parts : last.parts ≡ parts_from t.parts cs
  pub records : last.records + length t.parts ≡ t.records + equals_of cs + length last.parts
  pub differs : last.differs ≡ t.differs + differs_of cs
  pub checks : last.checks ≡ t.checks + checks_of cs
  pub terms : (v : Term) → Asserted cs v → Built (taking t.symbols ++ arities_of cs) v
  pub within : T (fits last)

arities-cons : (c : Command) (cs : List Command) → arities_of (c ∷ cs) ≡ arities_of (c ∷ []) ++ arities_of cs
arities-cons (declare n) cs = refl
arities-cons (equal s t) cs = refl
arities-cons (differ s t) cs = refl
arities-cons check cs = refl

equals-cons : (c : Command) (cs : List Command) → equals_of (c ∷ cs) ≡ equals_of (c ∷ []) + equals_of cs
equals-cons (declare n) cs = omega arith
equals-cons (equal s t) cs = omega arith
equals-cons (differ s t) cs = omega arith
equals-cons check cs = omega arith

differs-cons : (c : Command) (cs : List Command) → differs_of (c ∷ cs) ≡ differs_of (c ∷ []) + differs_of cs
differs-cons (declare n) cs = omega arith
differs-cons (equal s t) cs = omega arith
differs-cons (differ s t) cs = omega arith
differs-cons check cs = omega arith

checks-cons : (c : Command) (cs : List Command) → checks_of (c ∷ cs) ≡ checks_of (c ∷ []) + checks_of cs
checks-cons (declare n) cs = omega arith
checks-cons (equal s t) cs = omega arith
checks-cons (differ s t) cs = omega arith
checks-cons check cs = omega arith

asserted-none : {v : Term} → Asserted [] v → ⊥
asserted-none (equal-left i) = Memᴰ.not-nil i
asserted-none (equal-right i) = Memᴰ.not-nil i
asserted-none (differ-left i) = Memᴰ.not-nil i
asserted-none (differ-right i) = Memᴰ.not-nil i

said-none : (t : Seen) → T (fits t) → Said t []
said-none t h = record {
  last = t;
  arities = sym (append-nil (taking t.symbols));
  parts = refl;
  records = omega arith;
  differs = omega arith;
  checks = omega arith;
  terms = λ v i. absurd (asserted-none i);
  within = h;
}

said_more : {t u : Seen} {c : Command} {cs : List Command} → Stepped t c u → Said u cs → Said t (c ∷ cs)
said_more {t} {u} {c} {cs} S R = record {
  last = R.last;
  arities = R.arities ∙ rows;
  parts = R.parts ∙ ap (λ l. parts_from l cs) S.parts;
  records = omega (arith, S.records, R.records, equals-cons c cs);
  differs = omega (arith, S.differs, R.differs, differs-cons c cs);
  checks = omega (arith, S.checks, R.checks, checks-cons c cs);
  terms = λ v i. go v (asserted-cases i);
  within = R.within;
}
  where
    rows : taking u.symbols ++ arities_of cs ≡ taking t.symbols ++ arities_of (c ∷ cs)
    rows = ap (λ l. l ++ arities_of cs) S.arities ∙ append_assoc (taking t.symbols) (arities_of (c ∷ [])) (arities_of cs) ∙ ap (λ l. taking t.symbols ++ l) (sym (arities-cons c cs))

    go : (v : Term) → Side v c ⊎ Asserted cs v → Built (taking t.symbols ++ arities_of (c ∷ cs)) v
    go v (inl i) = built-more (arities_of (c ∷ cs)) (S.terms v i)
    go v (inr i) = subst (λ l. Built l v) rows (R.terms v i)

commands-said : (n : ℕ) (s u : List ℕ) (t : Seen) (at : ℕ) {cs : List Command} → T (fits t) → commands_at n s u t at ≡ got cs → Said t cs
commands-said zero s u t at f e = let z : ◌≡◌ {A = ℕ} 0 1 = cc in absurd (omega arith)
commands-said (suc n) s u t at {cs} f e =
    let a = bound _ _ e in
    elim (split _ _ _ a.2) [
      | inl h ↦ let b = bound _ _ h.1 in let c = bound _ _ b.2 in subst (λ cs. Said t cs) (got-one c.2) (said-none t f)
      | inr h ↦
          let b = bound _ _ h.1 in
          let c = bound _ _ b.2 in
          let S = command-stepped s u t a.0 b.1 in
          subst (λ cs. Said t cs) (got-one c.2) (said_more S (commands-said n s u b.0.seen b.0.behind S.within c.1))
    ]

pub reading-said : (s : List ℕ) {cs : List Command} → reading s ≡ got cs → Said nothing cs
unfolding reading
reading-said s e =
    let a = bound _ _ e in
    let b = bound _ _ a.2 in
    let c = bound _ _ b.2 in
    let d = bound _ _ c.2 in
    let f = bound _ _ d.2 in
    let g = bound _ _ f.2 in
    let h = bound _ _ g.2 in
    let i = bound _ _ h.2 in
    let j = bound _ _ i.2 in
    commands-said (suc (length s)) s (text_of h.0.token) nothing j.0 tt j.2

-- So every accepted script's terms are built of its declared symbols, and the promise holds of it.
pub reading-built : (s : List ℕ) {cs : List Command} → reading s ≡ got cs → (v : Term) → Asserted cs v → Built (arities_of cs) v
reading-built s e = (reading-said s e).terms

pub reading-promise : (s : List ℕ) {cs : List Command} → reading s ≡ got cs → Promised (Built (arities_of cs)) cs
reading-promise s e = promise-all (reading-built s e)
