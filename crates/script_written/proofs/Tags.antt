-- Every tag of a script's fields is below N, and no limit is passed. Assumes nothing.
use Prim.Native.Nat.{ℕ, ◌+◌, ◌≤◌}
use native.Mathlib.Omega.{arith}
use mathlib.Core.Path.{◌≡◌, refl, ap}
use mathlib.Core.List.{List, [], ◌∷◌, ◌++◌, map, Memᴰ}
use lib.ListN.{length, drop}
use Rattle.meaning.specs.Following.{Rec, eq}
use Rattle.script_terms.specs.Terms.{Term, Command, declare, equal, differ, check, Asserted, equal-left, equal-right, differ-left, differ-right, differs_of, checks_of}
use Rattle.script_terms.specs.Flat.{Part, curry, after, parts_from, tag_of, record_of, Item, noted, differing, checking, records_of, new_items, own_of, items_from, parts_of, symbols_of, tags_of, items_of}
use Rattle.script_terms.proofs.Lists.{grown-in, new_in}
use Rattle.script_terms.proofs.Known.{Known, node, Entry, entry, filed-none}
use Rattle.script_terms.proofs.Script.{after-grown, parts-grown}
use Rattle.script_terms.proofs.Promise.{asserted-behind, asserted-known, parts-filed, all-terms}
use Rattle.script_meaning.specs.Reading.{got, reading}
use Rattle.script_meaning.proofs.Laws.{tag_below}
use Rattle.script_meaning.proofs.Said.{reading-built}
use Rattle.job_field.specs.Items as job
use Rattle.job_field.specs.Standing.{Below}
use Rattle.script_written.specs.Written.{item_of}

-- Each item has tags below N.
pub data Each (N : ℕ) : List Item → Type 0 where
  none : Each N []
  more : {i : Item} {is : List Item} → Below N (job.tags_of (item_of i)) → Each N is → Each N (i ∷ is)

each_append : {N : ℕ} {is js : List Item} → Each N is → Each N js → Each N (is ++ js)
each_append none b = b
each_append (more h a) b = more h (each_append a b)

module _ (S : ℕ) (all : List Part) (N : ℕ) (most : S + length all ≤ N) where
  -- The 02s of parts that are all among the parts.
  new-each : {ar : ℕ → ℕ} {In : Part → Type 0} (m : List Part) → ((p : Part) → Memᴰ p m → Entry S ar In all p) → ((p : Part) → Memᴰ p m → Memᴰ p all) → Each N (map (λ p. noted (record_of S all p)) m)
  new-each [] F G = none
  new-each {ar} {In} (p ∷ m) F G = more (one (F p (Memᴰ.head refl)) (G p (Memᴰ.head refl))) (new-each m (λ q i. F q (Memᴰ.tail i)) (λ q i. G q (Memᴰ.tail i)))
    where
      one : {p : Part} → Entry S ar In all p → Memᴰ p all → Below N (job.tags_of (item_of (noted (record_of S all p))))
      one (entry u v w) i = (omega (arith, most, tag_below u), (omega (arith, most, tag_below v), (omega (arith, most, tag_below (node i u v)), tt)))

  own-each : (c : Command) {cs : List Command} → ((t : Term) → Asserted (c ∷ cs) t → Known S all (curry t)) → Each N (own_of S all c)
  own-each (declare n) K = none
  own-each (equal s t) K = more {i = noted (eq (tag_of S all (curry s)) (tag_of S all (curry t)))} (omega (arith, most, tag_below (K s (equal-left (Memᴰ.head refl)))), (omega (arith, most, tag_below (K t (equal-right (Memᴰ.head refl)))), tt)) none
  own-each (differ s t) K = more {i = differing (tag_of S all (curry s)) (tag_of S all (curry t))} (omega (arith, most, tag_below (K s (differ-left (Memᴰ.head refl)))), (omega (arith, most, tag_below (K t (differ-right (Memᴰ.head refl)))), tt)) none
  own-each check K = more {i = checking} tt none

  each_from : {ar : ℕ → ℕ} {In : Part → Type 0} (l : List Part) (cs : List Command) → ((p : Part) → Memᴰ p (parts_from l cs) → Entry S ar In all p) → ((p : Part) → Memᴰ p (parts_from l cs) → Memᴰ p all)
      → ((t : Term) → Asserted cs t → Known S all (curry t)) → Each N (items_from S all l cs)
  each_from l [] F G K = none
  each_from l (c ∷ cs) F G K =
      let up : (p : Part) → Memᴰ p (drop (length l) (after l c)) → Memᴰ p (parts_from (after l c) cs) = λ p i. grown-in (parts-grown (after l c) cs) (new_in (after-grown l c) i) in
      each_append (new-each (drop (length l) (after l c)) (λ p i. F p (up p i)) (λ p i. G p (up p i))) (each_append (own-each c K) (each_from (after l c) cs F G (λ t i. K t (asserted-behind i))))

pub reading-each : (s : List ℕ) {cs : List Command} → reading s ≡ got cs → Each (tags_of cs) (items_of cs)
reading-each s {cs} e =
    let D = all-terms (reading-built s e) in
    each_from (symbols_of cs) (parts_of cs) (tags_of cs) (omega arith) [] cs (parts-filed D [] cs (λ t i. D.asserted i) filed-none) (λ p i. i) (λ t i. asserted-known D cs (λ t i. D.asserted i) i)

-- How many records, pairs and questions the items are.
pub records-same : (is : List Item) → job.records_of (map item_of is) ≡ records_of is
records-same [] = refl
records-same (noted r ∷ is) = ap (λ l. r ∷ l) (records-same is)
records-same (differing a b ∷ is) = records-same is
records-same (checking ∷ is) = records-same is

pairs-append : (is js : List Item) → length (job.pairs_of (map item_of (is ++ js))) ≡ length (job.pairs_of (map item_of is)) + length (job.pairs_of (map item_of js))
pairs-append [] js = omega arith
pairs-append (noted r ∷ is) js = pairs-append is js
pairs-append (differing a b ∷ is) js = let e = pairs-append is js in omega arith
pairs-append (checking ∷ is) js = pairs-append is js

asked-append : (is js : List Item) → job.questions_of (map item_of (is ++ js)) ≡ job.questions_of (map item_of is) + job.questions_of (map item_of js)
asked-append [] js = omega arith
asked-append (noted r ∷ is) js = asked-append is js
asked-append (differing a b ∷ is) js = asked-append is js
asked-append (checking ∷ is) js = let e = asked-append is js in omega arith

pairs-none : (f : Part → Rec) (l : List Part) → length (job.pairs_of (map item_of (map (λ p. noted (f p)) l))) ≡ 0
pairs-none f [] = refl
pairs-none f (p ∷ l) = pairs-none f l

asked-none : (f : Part → Rec) (l : List Part) → job.questions_of (map item_of (map (λ p. noted (f p)) l)) ≡ 0
asked-none f [] = refl
asked-none f (p ∷ l) = asked-none f l

module _ (S : ℕ) (all : List Part) where
  own-pairs : (c : Command) (cs : List Command) → length (job.pairs_of (map item_of (own_of S all c))) + differs_of cs ≡ differs_of (c ∷ cs)
  own-pairs (declare n) cs = omega arith
  own-pairs (equal s t) cs = omega arith
  own-pairs (differ s t) cs = omega arith
  own-pairs check cs = omega arith

  own-asked : (c : Command) (cs : List Command) → job.questions_of (map item_of (own_of S all c)) + checks_of cs ≡ checks_of (c ∷ cs)
  own-asked (declare n) cs = omega arith
  own-asked (equal s t) cs = omega arith
  own-asked (differ s t) cs = omega arith
  own-asked check cs = omega arith

  pub items-pairs : (l : List Part) (cs : List Command) → length (job.pairs_of (map item_of (items_from S all l cs))) ≡ differs_of cs
  items-pairs l [] = refl
  items-pairs l (c ∷ cs) =
      let n = new_items S all l c in
      let r = items_from S all (after l c) cs in
      omega (arith, pairs-append n (own_of S all c ++ r), pairs-append (own_of S all c) r, pairs-none (record_of S all) (drop (length l) (after l c)), items-pairs (after l c) cs, own-pairs c cs)

  pub items-asked : (l : List Part) (cs : List Command) → job.questions_of (map item_of (items_from S all l cs)) ≡ checks_of cs
  items-asked l [] = refl
  items-asked l (c ∷ cs) =
      let n = new_items S all l c in
      let r = items_from S all (after l c) cs in
      omega (arith, asked-append n (own_of S all c ++ r), asked-append (own_of S all c) r, asked-none (record_of S all) (drop (length l) (after l c)), items-asked (after l c) cs, own-asked c cs)
