-- A negated equality before a check-sat is broken there exactly when its two terms are equal in every congruence that holds the equations before it: so a 06 is answered by 86
-- exactly where the assertions before it cannot all hold. Assumes nothing.
use Prim.Native.Nat.{ℕ}
use mathlib.Core.Path.{◌≡◌, refl, sym, ◌∙◌, ap}
use mathlib.Core.Logic.{◌↔◌}
use mathlib.Core.List.{List, [], ◌∷◌, ◌++◌, map, append_assoc, Memᴰ}
use lib.ListN.{length, drop}
use Rattle.meaning.specs.Following.{Follows, UpTo}
use Rattle.meaning.proofs.Close.{more}
use Rattle.meaning.proofs.Exact.{at_front, front_at}
use Rattle.script_terms.specs.Terms.{Term, Command, differ, arities_of, Asserted, equal-left, equal-right, differ-left, differ-right, Terms, Built}
use Rattle.script_terms.specs.Flat.{Part, curry, after, parts_from, tag_of, record_of, records_of, own_of, items_from, parts_of, symbols_of, items_of}
use Rattle.script_terms.specs.Promise.{Everywhere}
use Rattle.script_terms.proofs.Lists.{Grown}
use Rattle.script_terms.proofs.Script.{mem_whole, whole_mem, records-of, parts-grown}
use Rattle.script_terms.proofs.Promise.{terms-follow, asserted-known, all-terms}
use Rattle.script_meaning.specs.Reading.{got, reading}
use Rattle.script_meaning.proofs.Said.{reading-built}
use Rattle.script_meaning.proofs.Laws.{records_before}

parts-append : (l : List Part) (xs ys : List Command) → parts_from l (xs ++ ys) ≡ parts_from (parts_from l xs) ys
parts-append l [] ys = refl
parts-append l (c ∷ xs) ys = parts-append (after l c) xs ys

records-behind : (S : ℕ) (all l : List Part) (xs ys : List Command)
    → records_of (items_from S all l (xs ++ ys)) ≡ records_of (items_from S all l xs) ++ records_of (items_from S all (parts_from l xs) ys)
records-behind S all l [] ys = refl
records-behind S all l (c ∷ xs) ys =
    let new = map (record_of S all) (drop (length l) (after l c)) in
    let own = records_of (own_of S all c) in
    let near = records_of (items_from S all (after l c) xs) in
    let far = records_of (items_from S all (parts_from (after l c) xs) ys) in
    records-of S all l c (xs ++ ys) ∙ ap (λ z. new ++ (own ++ z)) (records-behind S all (after l c) xs ys) ∙ ap (λ z. new ++ z) (sym (append_assoc own near far)) ∙ sym (append_assoc new (own ++ near) far)
    ∙ ap (λ z. z ++ far) (sym (records-of S all l c xs))

asserted-front : (xs ys : List Command) {t : Term} → Asserted xs t → Asserted (xs ++ ys) t
asserted-front xs ys (equal-left i) = equal-left (mathlib.Core.List.Memᴰ.append_left ys i)
asserted-front xs ys (equal-right i) = equal-right (mathlib.Core.List.Memᴰ.append_left ys i)
asserted-front xs ys (differ-left i) = differ-left (mathlib.Core.List.Memᴰ.append_left ys i)
asserted-front xs ys (differ-right i) = differ-right (mathlib.Core.List.Memᴰ.append_left ys i)

-- xs are the commands before the check-sat, ys those from it on.
pub broken-at : (xs ys : List Command) {In : Term → Type 0} → Terms (arities_of (xs ++ ys)) (xs ++ ys) In → (s t : Term) → Memᴰ (differ s t) xs
    → Follows (UpTo (records_of (items_of (xs ++ ys))) (records_before xs ys)) (tag_of (symbols_of (xs ++ ys)) (parts_of (xs ++ ys)) (curry s)) (tag_of (symbols_of (xs ++ ys)) (parts_of (xs ++ ys)) (curry t)) ↔ Everywhere In xs s t
broken-at xs ys {In} D s t i =
    let S = symbols_of (xs ++ ys) in
    let all = parts_of (xs ++ ys) in
    let front = records_of (items_from S all [] xs) in
    let back = records_of (items_from S all (parts_from [] xs) ys) in
    let a : (t : Term) → Asserted xs t → In t = λ t j. D.asserted (asserted-front xs ys j) in
    let g : Grown (parts_of xs) all = rw (parts-append [] xs ys) (parts-grown (parts_of xs) ys) in
    let e = terms-follow D xs all a g {s = s} {t = t} (a s (differ-left i)) (asserted-known D xs a (differ-left i)) (asserted-known D xs a (differ-right i)) in
    let q : records_of (items_of (xs ++ ys)) ≡ front ++ back = records-behind S all [] xs ys in
    let to : Follows (UpTo (records_of (items_of (xs ++ ys))) (records_before xs ys)) (tag_of S all (curry s)) (tag_of S all (curry t)) → Follows (λ r. Memᴰ r front) (tag_of S all (curry s)) (tag_of S all (curry t)) =
    λ f. more (λ r i. whole_mem front r (i.0, i.1, front_at front back i.1 (rw q at i.2))) f in
    let fro : Follows (λ r. Memᴰ r front) (tag_of S all (curry s)) (tag_of S all (curry t)) → Follows (UpTo (records_of (items_of (xs ++ ys))) (records_before xs ys)) (tag_of S all (curry s)) (tag_of S all (curry t)) =
    λ f. more (λ r i. let w = mem_whole front r i in (w.0, w.1, rw q (at_front front back w.2))) f in
    (λ f. e.0 (to f), λ x. fro (e.1 x))

-- For every script of bytes that is accepted.
pub reading-broken : (s : List ℕ) (xs ys : List Command) → reading s ≡ got (xs ++ ys) → (u v : Term) → Memᴰ (differ u v) xs
    → Follows (UpTo (records_of (items_of (xs ++ ys))) (records_before xs ys)) (tag_of (symbols_of (xs ++ ys)) (parts_of (xs ++ ys)) (curry u)) (tag_of (symbols_of (xs ++ ys)) (parts_of (xs ++ ys)) (curry v)) ↔ Everywhere (Built (arities_of (xs ++ ys))) xs u v
reading-broken s xs ys e u v i = broken-at xs ys (all-terms (reading-built s e)) u v i
