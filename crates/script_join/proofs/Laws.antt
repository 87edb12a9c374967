-- What the reader of terms rests on, besides its own loop. Assumes nothing.
use Prim.Native.Nat.{ℕ, suc, ◌+◌, ◌≤◌}
use native.Mathlib.Omega.{arith}
use mathlib.Core.Path.{◌≡◌, refl, sym, ◌∙◌, ap, subst}
use mathlib.Core.Bool.{Bool, true, false, ◌&&◌, ◌||◌}
use mathlib.Core.List.Memᴰ
use mathlib.Core.List.{List, ◌++◌, map, map-append, append_assoc, Memᴰ}
use lib.Dec.{leb, leb→le}
use lib.ListN.{length, drop}
use Rattle.script_terms.proofs.Tests.{map_same, both_hold}
use Rattle.script_terms.specs.Terms.{Term, call, Args, none, more, count, snoc}
use Rattle.script_terms.specs.Flat.{Part, symbol, applied, curry, spine, add, place, record_of, Item, noted}
use Rattle.script_meaning.specs.Tokens.{Lexeme, text_of}
use Rattle.script_meaning.specs.Reading.{fault, got, ◌>>=◌, either, must, Seen, with_part, fits, is_opening, is_own, is_there, Found, partial, term_at}
use Rattle.script_terms.proofs.Lists.{Grown, grown-on, grown-new, add-in, add-grown, place_found}
use Rattle.script_terms.proofs.Known.{Known, node, known_grown}
use Rattle.script_meaning.proofs.Laws.{tag-grown, place-below}
use Rattle.script_shelf.specs.Shelf.{number_of, Standing}
use Rattle.script_shelf.specs.declared.Counts.{Counts}
use Rattle.script_parts.specs.Meet.{new_parts, Meeting, Met, Meets}
use Rattle.script_fields.specs.Fields.{fitting}
use Rattle.script_fields.proofs.Fields.{fitting-is}
use Rattle.script_join.specs.Promises.{Joins, Start, Wrote}

-- One argument more is one application more.
spine-snoc : (ts : Args) (p : Part) (x : Term) → spine (snoc ts x) p ≡ applied (spine ts p) (curry x)
spine-snoc none p x = refl
spine-snoc (more t ts) p x = spine-snoc ts (applied p (curry t)) x

pub curry-snoc : (f : ℕ) (ts : Args) (x : Term) → curry (call f (snoc ts x)) ≡ applied (curry (call f ts)) (curry x)
curry-snoc f ts x = spine-snoc ts (symbol f) x

pub count-snoc : (ts : Args) (x : Term) → count (snoc ts x) ≡ suc (count ts)
count-snoc none x = refl
count-snoc (more t ts) x = ap suc (count-snoc ts x)

pub known_joined : {l : List Part} {p q : Part} → Known 1001 l p → Known 1001 l q → Known 1001 (add l (applied p q)) (applied p q)
known_joined {l} {p} {q} u v = let g = add-grown l (applied p q) in node (add-in l (applied p q)) (known_grown g u) (known_grown g v)

-- Fields of parts stay when more parts are met, so what two steps wrote is what both wrote.
record-grown : {l l' : List Part} {x : Part} → Standing l → Grown l l' → Memᴰ x l → record_of 1001 l' x ≡ record_of 1001 l x
record-grown {l} {l'} {x} S g i =
    let s = S (place l x) (place-below l i) in
    let e : x ≡ applied s.left s.right = sym (place_found l x (symbol 0) i) ∙ s.is in
    let k : Known 1001 l (applied s.left s.right) = node (subst (λ y. Memᴰ y l) e i) s.left-known s.right-known in
    rw (e, tag-grown g s.left-known, tag-grown g s.right-known, tag-grown g k)

pub news-on : {l l' l'' : List Part} → Standing l' → Grown l l' → Grown l' l'' → new_parts l l'' ≡ new_parts l l' ++ new_parts l' l''
news-on {l} {l'} {l''} S g h =
    let k : Grown l l'' = record { behind = g.behind ++ h.behind; is = h.is ∙ ap (λ y. y ++ h.behind) g.is ∙ append_assoc l g.behind h.behind } in
    let e₁ : drop (length l) l'' ≡ g.behind ++ h.behind = grown-new k in
    let e₂ = grown-new g in
    let e₃ = grown-new h in
    let m : map (λ p. noted (record_of 1001 l'' p)) g.behind ≡ map (λ p. noted (record_of 1001 l' p)) g.behind
    = map_same (λ p. noted (record_of 1001 l'' p)) (λ p. noted (record_of 1001 l' p)) g.behind (λ x i. ap noted (record-grown {x = x} S h (rw g.is (Memᴰ.append_right l i)))) in
    rw (e₁, e₂, e₃) (map-append (λ p. noted (record_of 1001 l'' p)) g.behind h.behind ∙ ap (λ y. y ++ map (λ p. noted (record_of 1001 l'' p)) h.behind) m)

pub wrote_on : {t t' t'' : Seen} {fs fs' fs'' : List Item} → Standing t'.parts → Wrote t t' fs fs' → Wrote t' t'' fs' fs'' → Wrote t t'' fs fs''
wrote_on {t} {t'} {t''} {fs} {fs'} {fs''} S a b = record {
  grown = grown-on a.grown b.grown;
  fields = b.fields ∙ ap (λ y. y ++ new_parts t'.parts t''.parts) a.fields ∙ append_assoc fs (new_parts t.parts t'.parts) (new_parts t'.parts t''.parts) ∙ ap (λ y. fs ++ y) (sym (news-on S a.grown b.grown));
}

-- Met is one such step.
pub met-wrote : {s w w' : List ℕ} {c' : Counts} {t : Seen} {fs : List Item} {p q : Part} {n : ℕ} → Met s w w' c' t fs p q n → Wrote t (with_part (applied p q) t) fs (fs ++ new_parts t.parts (with_part (applied p q) t).parts)
met-wrote {t = t} {p = p} {q = q} m = record { grown = add-grown t.parts (applied p q); fields = refl }

-- What has the limits kept may meet one part more.
below : (m n : ℕ) → leb m n ≡ true → m ≤ n
below m n e = leb→le m n (rw e tt)

pub meeting : {s w : List ℕ} {c : Counts} {t : Seen} {fs : List Item} {p q : Part} {a b : ℕ} → Start s w c t fs → Known 1001 t.parts p → Known 1001 t.parts q → a ≡ number_of t.parts p → b ≡ number_of t.parts q → Meeting s w c t fs p q a b
meeting {t = t} S u v e f =
    let x = both_hold (leb (length t.symbols + length t.parts) 1000 && leb t.records 4000 && leb t.differs 500) (leb t.checks 1000) S.within in
    let y = both_hold (leb (length t.symbols + length t.parts) 1000 && leb t.records 4000) (leb t.differs 500) x.0 in
    let z = both_hold (leb (length t.symbols + length t.parts) 1000) (leb t.records 4000) y.0 in
    let n = below (length t.symbols + length t.parts) 1000 z.0 in
    record { holding = S.holding; left-known = u; right-known = v; left_is = e; right_is = f; tags = omega (arith, n); records = below t.records 4000 z.1; differs = below t.differs 500 y.1; checks = below t.checks 1000 x.1 }

-- The definition's own step, by what `join` answers.
pub partial-got : (wants have : ℕ) (r : Found) (f : ℕ) (ts : Args) (x : Term) → (leb wants have || fits (with_part (applied (curry (call f ts)) (curry x)) r.seen)) ≡ true
    → partial wants have r (call f (snoc ts x)) ≡ got (with_part (applied (curry (call f ts)) (curry x)) r.seen)
unfolding must ◌>>=◌
partial-got wants have r f ts x e = rw (curry-snoc f ts x, e)

pub partial-fault : (wants have : ℕ) (r : Found) (f : ℕ) (ts : Args) (x : Term) → (leb wants have || fits (with_part (applied (curry (call f ts)) (curry x)) r.seen)) ≡ false
    → partial wants have r (call f (snoc ts x)) ≡ fault 16 r.last
unfolding must ◌>>=◌
partial-fault wants have r f ts x e = rw (curry-snoc f ts x, e)

-- An argument too many is refused by its first token, whatever it holds: so the readers need no call for it.
pub surplus-open : (n : ℕ) (s : List ℕ) (t : Seen) (d : ℕ) (x : Lexeme) → is_opening x.token ≡ true → term_at (suc n) s t d true x ≡ fault 15 x.from
unfolding either must ◌>>=◌
surplus-open n s t d x e = rw e

no-and : (b : Bool) → b && false ≡ false
no-and true = refl
no-and false = refl

pub surplus-own : (n : ℕ) (s : List ℕ) (t : Seen) (d : ℕ) (x : Lexeme) → is_opening x.token ≡ false → is_own x.token ≡ true → term_at (suc n) s t d true x ≡ fault 15 x.from
unfolding either must ◌>>=◌
surplus-own n s t d x e f = rw (e, f, no-and (is_there t.symbols (text_of x.token)))

pub surplus-other : (n : ℕ) (s : List ℕ) (t : Seen) (d : ℕ) (x : Lexeme) → is_opening x.token ≡ false → is_own x.token ≡ false → term_at (suc n) s t d true x ≡ fault 14 x.from
unfolding either must ◌>>=◌
surplus-other n s t d x e f = rw (e, f)

-- What the code of `join` has.
pub joins-whole : {w w' : List ℕ} {c c' : Counts} {a b number : ℕ} {whole : Bool} → Meets w w' c c' a b number → whole ≡ true → Joins w w' c c' a b whole true number
joins-whole M e = record { joined = λ s t fs p q x. record { met = M.met s t fs p q x; within-is = rw e } }

pub joins_part : {w w' : List ℕ} {c c' : Counts} {a b number : ℕ} {whole within : Bool} → Meets w w' c c' a b number → whole ≡ false → within ≡ fitting c' → Joins w w' c c' a b whole within number
joins_part M e f = record { joined = λ s t fs p q x. let m = M.met s t fs p q x in record { met = m; within-is = rw e (f ∙ fitting-is m.holding) } }

pub within-tags : {s w : List ℕ} {c : Counts} {t : Seen} {fs : List Item} → Start s w c t fs → length t.symbols + length t.parts ≤ 1000
within-tags {t = t} S =
    let x = both_hold (leb (length t.symbols + length t.parts) 1000 && leb t.records 4000 && leb t.differs 500) (leb t.checks 1000) S.within in
    let y = both_hold (leb (length t.symbols + length t.parts) 1000 && leb t.records 4000) (leb t.differs 500) x.0 in
    below (length t.symbols + length t.parts) 1000 (both_hold (leb (length t.symbols + length t.parts) 1000) (leb t.records 4000) y.0).0
