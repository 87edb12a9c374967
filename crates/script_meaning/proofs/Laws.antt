-- The laws that a reader of scripts rests on: a tag is of one part, and stays when more parts are met; tags and counts are within document 01's limits; and the
-- promise at each check-sat, by the records before it. Assumes nothing.
use Prim.Native.Nat.{ℕ, suc, ◌+◌, ◌-◌, ◌<◌, ◌≤◌}
use native.Mathlib.Omega.{arith}
use mathlib.Core.Path.{◌≡◌, refl, sym, ◌∙◌, ap, subst}
use mathlib.Core.Logic.{◌⊎◌, inl, inr, ◌↔◌}
use mathlib.Core.Bool.{Bool, true, false, cond, ◌&&◌}
use mathlib.Core.List.{List, [], ◌∷◌, ◌++◌, map, append_assoc, Memᴰ}
use lib.Dec.{T, leb, leb→le}
use lib.ListN.{length, drop, length-append, length-drop, length-map}
use Rattle.meaning.specs.Following.{Follows, UpTo}
use Rattle.meaning.proofs.Close.{more}
use Rattle.meaning.proofs.Exact.{at_front, front_at}
use Rattle.script_terms.specs.Terms.{Term, constant, Command, declare, equal, differ, check, arities_of, Asserted, equal-left, equal-right, differ-left, differ-right, Terms, Declared, equals_of, differs_of, checks_of}
use Rattle.script_terms.specs.Flat.{Part, same, after, parts_from, place, tag_of, record_of, records_of, own_of, items_from, parts_of, symbols_of, tags_of, items_of}
use Rattle.script_meaning.specs.Reading.{got, reading}
use Rattle.script_terms.specs.Promise.{Everywhere}
use Rattle.script_terms.proofs.Lists.{same_self, Grown}
use Rattle.script_terms.proofs.Known.{Known, leaf, node, name_of, known-named}
use Rattle.script_terms.proofs.Script.{mem_whole, whole_mem, records-of, after-grown, parts-grown}
use Rattle.script_terms.proofs.Promise.{terms-follow}
use Rattle.script_meaning.proofs.Said.{reading-said}

-- Two parts with one tag are one: so a part may be looked up by the tags of its halves.
pub tag_one : {S : ℕ} {l : List Part} {p q : Part} → Known S l p → Known S l q → tag_of S l p ≡ tag_of S l q → p ≡ q
tag_one {S} {l} u v e = sym (known-named u) ∙ ap (name_of S l) e ∙ known-named v

-- A part's place is in the list, and stays when the list grows.
pub place-below : (l : List Part) {p : Part} → Memᴰ p l → place l p < length l
place-below [] i = absurd (mathlib.Core.List.Memᴰ.not-nil i)
place-below (x ∷ l) {p} i = go (same x p) refl (mathlib.Core.List.Memᴰ.cases_cons i) (place-below l)
  where
    go : (b : Bool) → same x p ≡ b → (p ≡ x) ⊎ Memᴰ p l → (Memᴰ p l → place l p < length l) → cond b 0 (suc (place l p)) < suc (length l)
    go true e h f = omega arith
    go false e (inl h) f = absurd (subst (λ b. T b) (ap (λ z. same z p) h ∙ e) (same_self p))
    go false e (inr h) f = omega (arith, f h)

place-append : (l m : List Part) {p : Part} → Memᴰ p l → place (l ++ m) p ≡ place l p
place-append [] m i = absurd (mathlib.Core.List.Memᴰ.not-nil i)
place-append (x ∷ l) m {p} i = go (same x p) refl (mathlib.Core.List.Memᴰ.cases_cons i) (place-append l m)
  where
    go : (b : Bool) → same x p ≡ b → (p ≡ x) ⊎ Memᴰ p l → (Memᴰ p l → place (l ++ m) p ≡ place l p) → cond b 0 (suc (place (l ++ m) p)) ≡ cond b 0 (suc (place l p))
    go true e h f = refl
    go false e (inl h) f = absurd (subst (λ b. T b) (ap (λ z. same z p) h ∙ e) (same_self p))
    go false e (inr h) f = ap suc (f h)

pub tag-grown : {S : ℕ} {l l' : List Part} {p : Part} → Grown l l' → Known S l p → tag_of S l' p ≡ tag_of S l p
tag-grown g (leaf h) = refl
tag-grown {S} {l} g (node {p = p} {q = q} i u v) = ap (λ n. S + n) (rw g.is (place-append l g.behind i))

pub tag_below : {S : ℕ} {l : List Part} {p : Part} → Known S l p → tag_of S l p < S + length l
tag_below (leaf h) = omega arith
tag_below {S} {l} (node i u v) = omega (arith, place-below l i)

-- How many records there are: one for each equality and one for each part.
own-records : (S : ℕ) (all : List Part) (c : Command) → length (records_of (own_of S all c)) ≡ equals_of (c ∷ [])
own-records S all (declare n) = refl
own-records S all (equal s t) = refl
own-records S all (differ s t) = refl
own-records S all check = refl

equals-cons : (c : Command) (cs : List Command) → equals_of (c ∷ cs) ≡ equals_of (c ∷ []) + equals_of cs
equals-cons (declare n) cs = omega arith
equals-cons (equal s t) cs = omega arith
equals-cons (differ s t) cs = omega arith
equals-cons check cs = omega arith

grown-long : {l l' : List Part} → Grown l l' → length l ≤ length l'
grown-long {l} {l'} g = let e : length l' ≡ length l + length g.behind = ap length g.is ∙ length-append l g.behind in omega arith

pub records-count : (S : ℕ) (all l : List Part) (cs : List Command) → length (records_of (items_from S all l cs)) + length l ≡ equals_of cs + length (parts_from l cs)
records-count S all l [] = omega arith
records-count S all l (c ∷ cs) =
    let new = map (record_of S all) (drop (length l) (after l c)) in
    let back = records_of (items_from S all (after l c) cs) in
    let e : length (records_of (items_from S all l (c ∷ cs))) ≡ length new + (length (records_of (own_of S all c)) + length back) =
    ap length (records-of S all l c cs) ∙ length-append new (records_of (own_of S all c) ++ back) ∙ ap (λ n. length new + n) (length-append (records_of (own_of S all c)) back) in
    let n : length new ≡ length (after l c) - length l = length-map (drop (length l) (after l c)) (record_of S all) ∙ length-drop (length l) (after l c) in
    omega (arith, e, n, grown-long (after-grown l c), own-records S all c, equals-cons c cs, records-count S all (after l c) cs)

-- An accepted script's job is within the limits: N from 1 to 1,000, at most 4,000 records, 500 of kind 05, 1,000 questions.
pub record Limits (cs : List Command) : Type 0 where
  pub some : 1 ≤ tags_of cs
  pub tags : tags_of cs ≤ 1000
  pub records : length (records_of (items_of cs)) ≤ 4000
  pub differs : differs_of cs ≤ 500
  pub checks : checks_of cs ≤ 1000

four : (a b c d : Bool) → T (a && b && c && d) → T a × T b × T c × T d
four true true true true t = (tt, tt, tt, tt)
four true true true false t = absurd t
four true true false d t = absurd (last d t)
  where
    last : (d : Bool) → T (false && d) → ⊥
    last true t = t
    last false t = t
four true false c d t = absurd (last c d t)
  where
    last : (c d : Bool) → T (false && c && d) → ⊥
    last true true t = t
    last true false t = t
    last false true t = t
    last false false t = t
four false b c d t = absurd (last b c d t)
  where
    last : (b c d : Bool) → T (false && b && c && d) → ⊥
    last true true true t = t
    last true true false t = t
    last true false true t = t
    last true false false t = t
    last false true true t = t
    last false true false t = t
    last false false true t = t
    last false false false t = t

pub reading-limits : (s : List ℕ) {cs : List Command} → reading s ≡ got cs → Limits cs
reading-limits s {cs} e =
    let R = reading-said s e in
    let z = R.last in
    let f = four (leb (length z.symbols + length z.parts) 1000) (leb z.records 4000) (leb z.differs 500) (leb z.checks 1000) R.within in
    let ar : length z.symbols ≡ symbols_of cs = sym (length-map z.symbols (λ x. x.takes)) ∙ ap length R.arities in
    let pa : length z.parts ≡ length (parts_of cs) = ap length R.parts in
    let t : length z.symbols + length z.parts ≤ 1000 = leb→le _ _ f.0 in
    let r : z.records ≤ 4000 = leb→le _ _ f.1 in
    let d : z.differs ≤ 500 = leb→le _ _ f.2 in
    let c : z.checks ≤ 1000 = leb→le _ _ f.3 in
    record {
      some = omega arith;
      tags = omega arith;
      records = omega (arith, R.records, records-count (symbols_of cs) (parts_of cs) [] cs);
      differs = omega (arith, R.differs);
      checks = omega (arith, R.checks);
    }

-- The first commands and the others.
parts-append : (l : List Part) (xs ys : List Command) → parts_from l (xs ++ ys) ≡ parts_from (parts_from l xs) ys
parts-append l [] ys = refl
parts-append l (c ∷ xs) ys = parts-append (after l c) xs ys

records-behind : (S : ℕ) (all l : List Part) (xs ys : List Command)
    → records_of (items_from S all l (xs ++ ys)) ≡ records_of (items_from S all l xs) ++ records_of (items_from S all (parts_from l xs) ys)
records-behind S all l [] ys = refl
records-behind S all l (c ∷ xs) ys =
    let new = map (record_of S all) (drop (length l) (after l c)) in
    let own = records_of (own_of S all c) in
    let near = records_of (items_from S all (after l c) xs) in
    let far = records_of (items_from S all (parts_from (after l c) xs) ys) in
    records-of S all l c (xs ++ ys) ∙ ap (λ z. new ++ (own ++ z)) (records-behind S all (after l c) xs ys) ∙ ap (λ z. new ++ z) (sym (append_assoc own near far)) ∙ sym (append_assoc new (own ++ near) far)
    ∙ ap (λ z. z ++ far) (sym (records-of S all l c xs))

asserted-front : (xs ys : List Command) {t : Term} → Asserted xs t → Asserted (xs ++ ys) t
asserted-front xs ys (equal-left i) = equal-left (mathlib.Core.List.Memᴰ.append_left ys i)
asserted-front xs ys (equal-right i) = equal-right (mathlib.Core.List.Memᴰ.append_left ys i)
asserted-front xs ys (differ-left i) = differ-left (mathlib.Core.List.Memᴰ.append_left ys i)
asserted-front xs ys (differ-right i) = differ-right (mathlib.Core.List.Memᴰ.append_left ys i)

-- The number of records before a place of the script, xs being the commands before it.
abbrev pub records_before : List Command → List Command → ℕ
records_before xs ys = length (records_of (items_from (symbols_of (xs ++ ys)) (parts_of (xs ++ ys)) [] xs))

-- So at each check-sat: two declared constants follow equal by the records before it exactly when they are equal in every congruence that holds the equations
-- before it.
pub promise-at : (xs ys : List Command) {In : Term → Type 0} → Terms (arities_of (xs ++ ys)) (xs ++ ys) In → (c d : ℕ) → Declared (arities_of (xs ++ ys)) c 0 → Declared (arities_of (xs ++ ys)) d 0
    → Follows (UpTo (records_of (items_of (xs ++ ys))) (records_before xs ys)) c d ↔ Everywhere In xs (constant c) (constant d)
promise-at xs ys {In} D c d h k =
    let S = symbols_of (xs ++ ys) in
    let all = parts_of (xs ++ ys) in
    let front = records_of (items_from S all [] xs) in
    let back = records_of (items_from S all (parts_from [] xs) ys) in
    let g : Grown (parts_of xs) all = rw (parts-append [] xs ys) (parts-grown (parts_of xs) ys) in
    let e = terms-follow D xs all (λ t i. D.asserted (asserted-front xs ys i)) g {s = constant c} {t = constant d} (D.constants h) (leaf h.there) (leaf k.there) in
    let q : records_of (items_of (xs ++ ys)) ≡ front ++ back = records-behind S all [] xs ys in
    let to : Follows (UpTo (records_of (items_of (xs ++ ys))) (records_before xs ys)) c d → Follows (λ r. Memᴰ r front) c d =
    λ f. more (λ r i. whole_mem front r (i.0, i.1, front_at front back i.1 (rw q at i.2))) f in
    let fro : Follows (λ r. Memᴰ r front) c d → Follows (UpTo (records_of (items_of (xs ++ ys))) (records_before xs ys)) c d =
    λ f. more (λ r i. let w = mem_whole front r i in (w.0, w.1, rw q (at_front front back w.2))) f in
    (λ f. e.0 (to f), λ x. fro (e.1 x))
