-- While a script is read the number of its symbols is not known, and a compound part is numbered from 1,001. What is kept then becomes the job's fields by one shift.
-- Assumes nothing.
use Prim.Native.Nat.{ℕ, ◌+◌, ◌-◌, ◌<◌, ◌≤◌}
use native.Mathlib.Omega.{arith}
use mathlib.Core.Path.{◌≡◌, refl, ◌∙◌, ap, ap₂}
use mathlib.Core.Bool.{Bool, true, false, cond}
use mathlib.Core.List.{List, [], ◌∷◌, ◌++◌, map, Memᴰ}
use lib.Dec.{T, ltb, ltb→lt, lt→ltb}
use lib.ListN.{length, drop}
use Rattle.meaning.specs.Following.{Rec, eq, app}
use Rattle.script_terms.specs.Terms.{Term, Command, declare, equal, differ, check, Asserted, equal-left, equal-right, differ-left, differ-right}
use Rattle.script_terms.specs.Flat.{Part, applied, curry, after, parts_from, place, tag_of, record_of, Item, noted, differing, checking, new_items, own_of, items_from, parts_of, symbols_of, items_of}
use Rattle.script_meaning.specs.Reading.{got, reading}
use Rattle.script_terms.proofs.Lists.{grown-in, new_in}
use Rattle.script_terms.proofs.Known.{Known, leaf, node, Entry, entry, filed-none}
use Rattle.script_terms.proofs.Script.{after-grown, parts-grown}
use Rattle.script_terms.proofs.Promise.{asserted-behind, asserted-known, parts-filed, all-terms}
use Rattle.script_meaning.proofs.Said.{reading-built}
use Rattle.script_meaning.proofs.Laws.{reading-limits}

abbrev pub shift : ℕ → ℕ → ℕ
shift S p = cond (ltb p 1001) p (p - 1001 + S)

abbrev pub shift_rec : ℕ → Rec → Rec
shift_rec S (eq a b) = eq (shift S a) (shift S b)
shift_rec S (app a b c) = app (shift S a) (shift S b) (shift S c)

abbrev pub shift_item : ℕ → Item → Item
shift_item S (noted r) = noted (shift_rec S r)
shift_item S (differing a b) = differing (shift S a) (shift S b)
shift_item S checking = checking

shift-low : (S f : ℕ) → f < 1001 → shift S f ≡ f
shift-low S f h = go (ltb f 1001) (lt→ltb f 1001 h)
  where
    go : (b : Bool) → T b → cond b f (f - 1001 + S) ≡ f
    go true t = refl
    go false t = absurd t

shift-high : (S k : ℕ) → shift S (1001 + k) ≡ S + k
shift-high S k = go (ltb (1001 + k) 1001) refl
  where
    go : (b : Bool) → ltb (1001 + k) 1001 ≡ b → cond b (1001 + k) (1001 + k - 1001 + S) ≡ S + k
    go true e = let h : 1001 + k < 1001 = ltb→lt (1001 + k) 1001 (rw e tt) in absurd (omega arith)
    go false e = omega arith

pub shift-tag : (m : List Part) {S : ℕ} {l : List Part} {p : Part} → S ≤ 1001 → Known S l p → shift S (tag_of 1001 m p) ≡ tag_of S m p
shift-tag m {S} s (leaf {f = f} h) = shift-low S f (omega arith)
shift-tag m {S} s (node {p = p} {q = q} i u v) = shift-high S (place m (applied p q))

module _ (S : ℕ) (few : S ≤ 1001) (all : List Part) where
  shift-record : {p q : Part} {l : List Part} → Known S l p → Known S l q → shift_rec S (record_of 1001 all (applied p q)) ≡ record_of S all (applied p q)
  shift-record {p} {q} u v =
      let a : shift S (tag_of 1001 all p) ≡ tag_of S all p = shift-tag all few u in
      let b : shift S (tag_of 1001 all q) ≡ tag_of S all q = shift-tag all few v in
      let c : shift S (1001 + place all (applied p q)) ≡ S + place all (applied p q) = shift-high S (place all (applied p q)) in
      cc

  -- The parts that are new, and a command's own field.
  shift-parts : {ar : ℕ → ℕ} {In : Part → Type 0} (l m : List Part) → ((p : Part) → Memᴰ p m → Entry S ar In l p)
      → map (shift_item S) (map (λ p. noted (record_of 1001 all p)) m) ≡ map (λ p. noted (record_of S all p)) m
  shift-parts l [] F = refl
  shift-parts {ar} {In} l (p ∷ m) F = ap₂ ◌∷◌ (one (F p (Memᴰ.head refl))) (shift-parts l m (λ q i. F q (Memᴰ.tail i)))
    where
      one : {p : Part} → Entry S ar In l p → shift_item S (noted (record_of 1001 all p)) ≡ noted (record_of S all p)
      one (entry u v w) = ap noted (shift-record u v)

  shift-own : (c : Command) {cs : List Command} {l : List Part} → ((t : Term) → Asserted (c ∷ cs) t → Known S l (curry t)) → map (shift_item S) (own_of 1001 all c) ≡ own_of S all c
  shift-own (declare n) K = refl
  shift-own (equal s t) K =
      let a : shift S (tag_of 1001 all (curry s)) ≡ tag_of S all (curry s) = shift-tag all few (K s (equal-left (Memᴰ.head refl))) in
      let b : shift S (tag_of 1001 all (curry t)) ≡ tag_of S all (curry t) = shift-tag all few (K t (equal-right (Memᴰ.head refl))) in
      cc
  shift-own (differ s t) K =
      let a : shift S (tag_of 1001 all (curry s)) ≡ tag_of S all (curry s) = shift-tag all few (K s (differ-left (Memᴰ.head refl))) in
      let b : shift S (tag_of 1001 all (curry t)) ≡ tag_of S all (curry t) = shift-tag all few (K t (differ-right (Memᴰ.head refl))) in
      cc
  shift-own check K = refl

  map-append : (f : Item → Item) (is js : List Item) → map f (is ++ js) ≡ map f is ++ map f js
  map-append f [] js = refl
  map-append f (i ∷ is) js = ap (λ l. f i ∷ l) (map-append f is js)

  shift_from : {ar : ℕ → ℕ} {In : Part → Type 0} (r l : List Part) (cs : List Command) → ((p : Part) → Memᴰ p (parts_from l cs) → Entry S ar In r p) → ((t : Term) → Asserted cs t → Known S r (curry t))
      → map (shift_item S) (items_from 1001 all l cs) ≡ items_from S all l cs
  shift_from r l [] F K = refl
  shift_from r l (c ∷ cs) F K =
      map-append (shift_item S) (new_items 1001 all l c) (own_of 1001 all c ++ items_from 1001 all (after l c) cs)
      ∙ ap₂ ◌++◌ (shift-parts r (drop (length l) (after l c)) (λ p i. F p (grown-in (parts-grown (after l c) cs) (new_in (after-grown l c) i))))
      (map-append (shift_item S) (own_of 1001 all c) (items_from 1001 all (after l c) cs) ∙ ap₂ ◌++◌ (shift-own c K) (shift_from r (after l c) cs F (λ t i. K t (asserted-behind i))))

-- An accepted script's fields, from what is kept while it is read.
pub reading-shift : (s : List ℕ) {cs : List Command} → reading s ≡ got cs → map (shift_item (symbols_of cs)) (items_from 1001 (parts_of cs) [] cs) ≡ items_of cs
reading-shift s {cs} e =
    let L = reading-limits s e in
    let D = all-terms (reading-built s e) in
    shift_from (symbols_of cs) (omega (arith, L.tags)) (parts_of cs) (parts_of cs) [] cs (parts-filed D [] cs (λ t i. D.asserted i) filed-none) (λ t i. asserted-known D cs (λ t i. D.asserted i) i)
