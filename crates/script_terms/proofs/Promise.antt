-- Document 02, No. 4: "Promise: two declared constants follow equal in the job exactly when they are equal in every congruence on the script's terms that holds
-- its equations." Proved for any two terms that have a tag, of which the constants are some. Assumes nothing.
use Prim.Native.Nat.{ℕ}
use native.Mathlib.Omega.{arith}
use mathlib.Core.Path.{◌≡◌, refl}
use mathlib.Core.Logic.{◌⊎◌, inl, inr, ◌↔◌}
use mathlib.Core.List.Memᴰ
use mathlib.Core.List.{List, [], ◌∷◌, Memᴰ}
use lib.ListN.{length, get_or}
use Rattle.meaning.specs.Following.{Rec, eq, app, Follows, given}
use Rattle.meaning.proofs.Close.{more}
use Rattle.script_terms.specs.Terms.{Term, call, Args, none, count, constant, Among, Congruence, Command, declare, equal, differ, check, arities_of, Asserted, equal-left, equal-right, differ-left, differ-right, Holds, Terms, Declared, Built, built, Occurring, side, argument, plain}
use Rattle.script_terms.specs.Flat.{Part, applied, curry, met, after, parts_from, tag_of, record_of, records_of, items_from, parts_of, symbols_of, items_of}
use Rattle.script_terms.specs.Promise.{Everywhere, FollowInJob, Promised}
use Rattle.script_terms.proofs.Lists.{Grown, grown-same, met-grown}
use Rattle.script_terms.proofs.Known.{Known, leaf, node, known_grown, known-named, Entry, entry, Filed, filed-none, met-known, met-filed}
use Rattle.script_terms.proofs.Worth.{Worth, Agree, agree-worth, agree-follows, known-worth}
use Rattle.script_terms.proofs.Alike.{Equation, Application, follows-equal}
use Rattle.script_terms.proofs.Terms.{uncurry, curry-back, regular, term-within, worth-congruence}
use Rattle.script_terms.proofs.Script.{mem_whole, whole_mem, parts-grown, part-recorded, equation-recorded, Source, of_part, of-equation, record-source}

pub asserted-behind : {c : Command} {cs : List Command} {t : Term} → Asserted cs t → Asserted (c ∷ cs) t
asserted-behind (equal-left i) = equal-left (Memᴰ.tail i)
asserted-behind (equal-right i) = equal-right (Memᴰ.tail i)
asserted-behind (differ-left i) = differ-left (Memᴰ.tail i)
asserted-behind (differ-right i) = differ-right (Memᴰ.tail i)

-- ns are the numbers of arguments of all declared symbols, In the script's terms.
module _ {ns : List ℕ} {whole : List Command} {In : Term → Type 0} (D : Terms ns whole In) where
  abbrev pub Is : Part → Type 0
  Is p = In (uncurry p)

  abbrev pub ar : ℕ → ℕ
  ar f = get_or ns f 0

  abbrev pub Parts : List Part → Type 0
  Parts l = Filed (length ns) ar Is l

  two : (l : List Part) {s t : Term} → In s → In t → Parts l → Parts (met (met l (curry s)) (curry t))
  two l {s} {t} i j F = met-filed (met l (curry s)) (term-within D t j) (met-filed l (term-within D s i) F)

  two-known : (l : List Part) {s t : Term} → In s → In t → Known (length ns) (met (met l (curry s)) (curry t)) (curry s) × Known (length ns) (met (met l (curry s)) (curry t)) (curry t)
  two-known l {s} {t} i j = (known_grown (met-grown (met l (curry s)) (curry t)) (met-known l (term-within D s i)), met-known (met l (curry s)) (term-within D t j))

  after-filed : (l : List Part) (c : Command) {cs : List Command} → ((t : Term) → Asserted (c ∷ cs) t → In t) → Parts l → Parts (after l c)
  after-filed l (declare n) a F = F
  after-filed l (equal s t) a F = two l (a s (equal-left (Memᴰ.head refl))) (a t (equal-right (Memᴰ.head refl))) F
  after-filed l (differ s t) a F = two l (a s (differ-left (Memᴰ.head refl))) (a t (differ-right (Memᴰ.head refl))) F
  after-filed l check a F = F

  pub parts-filed : (l : List Part) (cs : List Command) → ((t : Term) → Asserted cs t → In t) → Parts l → Parts (parts_from l cs)
  parts-filed l [] a F = F
  parts-filed l (c ∷ cs) a F = parts-filed (after l c) cs (λ t i. a t (asserted-behind i)) (after-filed l c a F)

  -- Both sides of an assertion have their tags.
  data Sides : Command → Term → Term → Type 0 where
    equality : {s t : Term} → Sides (equal s t) s t
    negation : {s t : Term} → Sides (differ s t) s t

  sides-known : (l : List Part) {c : Command} {cs : List Command} {s t : Term} → Sides c s t → ((t : Term) → Asserted (c ∷ cs) t → In t)
      → Known (length ns) (after l c) (curry s) × Known (length ns) (after l c) (curry t)
  sides-known l (equality {s = s} {t = t}) a = two-known l (a s (equal-left (Memᴰ.head refl))) (a t (equal-right (Memᴰ.head refl)))
  sides-known l (negation {s = s} {t = t}) a = two-known l (a s (differ-left (Memᴰ.head refl))) (a t (differ-right (Memᴰ.head refl)))

  pair-known : (l : List Part) (cs : List Command) {c : Command} {s t : Term} → Sides c s t → ((t : Term) → Asserted cs t → In t) → Memᴰ c cs
      → Known (length ns) (parts_from l cs) (curry s) × Known (length ns) (parts_from l cs) (curry t)
  pair-known l [] e a i = absurd (Memᴰ.not-nil i)
  pair-known l (x ∷ cs) {c} {s} {t} e a i = go (Memᴰ.cases_cons i) (pair-known (after l x) cs e (λ t j. a t (asserted-behind j)))
    where
      go : (c ≡ x) ⊎ Memᴰ c cs → (Memᴰ c cs → Known (length ns) (parts_from (after l x) cs) (curry s) × Known (length ns) (parts_from (after l x) cs) (curry t))
          → Known (length ns) (parts_from (after l x) cs) (curry s) × Known (length ns) (parts_from (after l x) cs) (curry t)
      go (inl q) f = let k = sides-known l (rw q at e) a in (known_grown (parts-grown (after l x) cs) k.0, known_grown (parts-grown (after l x) cs) k.1)
      go (inr j) f = f j

  pub asserted-known : (cs : List Command) → ((t : Term) → Asserted cs t → In t) → {t : Term} → Asserted cs t → Known (length ns) (parts_of cs) (curry t)
  asserted-known cs a (equal-left i) = (pair-known [] cs equality a i).0
  asserted-known cs a (equal-right i) = (pair-known [] cs equality a i).1
  asserted-known cs a (differ-left i) = (pair-known [] cs negation a i).0
  asserted-known cs a (differ-right i) = (pair-known [] cs negation a i).1

  -- cs are the commands up to a place, or all of them, and all are the compound parts of the whole.
  module _ (cs : List Command) (all : List Part) (a : (t : Term) → Asserted cs t → In t) (g : Grown (parts_of cs) all) where
    abbrev Noted : Rec → Type 0
    Noted r = Memᴰ r (records_of (items_from (length ns) all [] cs))

    tagged : {t : Term} → Asserted cs t → Known (length ns) all (curry t)
    tagged i = known_grown g (asserted-known cs a i)

    module _ {R : Term → Term → Type 0} (C : Congruence In R) (H : Holds cs R) where
      equation : (i j : ℕ) → Noted (eq i j) → Equation (length ns) ar Is (λ p q. R (uncurry p) (uncurry q)) all i j
      equation i j m = go (record-source (length ns) all [] cs m)
        where
          none : {p : Part} → Entry (length ns) ar Is (parts_of cs) p → eq i j ≡ record_of (length ns) all p → ⊥
          none (entry u v w) e = let z : ◌≡◌ {A = ℕ} 0 1 = cc in absurd (omega arith)

          go : Source (length ns) all [] cs (eq i j) → Equation (length ns) ar Is (λ p q. R (uncurry p) (uncurry q)) all i j
          go (of_part {p = p} h e) = absurd (none (parts-filed [] cs a filed-none p h) e)
          go (of-equation {s = s} {t = t} h e) =
              let l : i ≡ tag_of (length ns) all (curry s) = cc in
              let r : j ≡ tag_of (length ns) all (curry t) = cc in
              record {
                left = curry s;
                right = curry t;
                left_is = rw l (known-named (tagged (equal-left h)));
                right_is = rw r (known-named (tagged (equal-right h)));
                left_in = term-within D s (a s (equal-left h));
                right-in = term-within D t (a t (equal-right h));
                equal = rw (curry-back s, curry-back t) (H s t h);
              }

      application : (i j k : ℕ) → Noted (app i j k) → Application (length ns) ar Is all i j k
      application i j k m = go (record-source (length ns) all [] cs m)
        where
          some : {p : Part} → Memᴰ p (parts_of cs) → Entry (length ns) ar Is (parts_of cs) p → app i j k ≡ record_of (length ns) all p → Application (length ns) ar Is all i j k
          some h (entry {p = p} {q = q} {n = n} u v w) e =
              let x : i ≡ tag_of (length ns) all p = cc in
              let y : j ≡ tag_of (length ns) all q = cc in
              let z : k ≡ tag_of (length ns) all (applied p q) = cc in
              record {
                left = p;
                right = q;
                missing = n;
                left_is = rw x (known-named (known_grown g u));
                right_is = rw y (known-named (known_grown g v));
                whole_is = rw z (known-named (known_grown g (node h u v)));
                whole_in = w;
              }

          go : Source (length ns) all [] cs (app i j k) → Application (length ns) ar Is all i j k
          go (of_part {p = p} h e) = some h (parts-filed [] cs a filed-none p h) e
          go (of-equation {s = s} {t = t} h e) = let z : ◌≡◌ {A = ℕ} 0 1 = cc in absurd (omega arith)

      -- What follows equal in the job is equal in every congruence ..
      pub job-congruence : {s t : Term} → In s → Known (length ns) all (curry s) → Known (length ns) all (curry t) → Follows Noted (tag_of (length ns) all (curry s)) (tag_of (length ns) all (curry t)) → R s t
      job-congruence {s} {t} i u v f =
          rw (curry-back s, curry-back t) at (follows-equal (length ns) ar Is (λ p q. R (uncurry p) (uncurry q)) (regular C) all Noted equation application u v (term-within D s i) f)

    part-noted : (p q : Part) → Memᴰ (applied p q) (parts_of cs) → Noted (app (tag_of (length ns) all p) (tag_of (length ns) all q) (tag_of (length ns) all (applied p q)))
    part-noted p q i = go (part-recorded (length ns) all [] cs i)
      where
        go : Memᴰ (applied p q) [] ⊎ Noted (record_of (length ns) all (applied p q)) → Noted (record_of (length ns) all (applied p q))
        go (inl j) = absurd (Memᴰ.not-nil j)
        go (inr j) = j

    worth : {p : Part} → Known (length ns) (parts_of cs) p → Worth Noted p (tag_of (length ns) all p)
    worth k = known-worth Noted (length ns) all part-noted k

    -- .. and what is equal in every congruence follows equal in the job: being worth equal tags is one.
    worth-holds : Holds cs (λ s t. Agree Noted (curry s) (curry t))
    worth-holds s t i = agree-worth Noted (worth (asserted-known cs a (equal-left i))) (worth (asserted-known cs a (equal-right i))) (given (equation-recorded (length ns) all [] cs i))

    pub congruence-job : {s t : Term} → Known (length ns) (parts_of cs) (curry s) → Known (length ns) (parts_of cs) (curry t) → Everywhere In cs s t
        → Follows Noted (tag_of (length ns) all (curry s)) (tag_of (length ns) all (curry t))
    congruence-job u v e = agree-follows Noted (worth u) (worth v) (e (λ s t. Agree Noted (curry s) (curry t)) (worth-congruence Noted In) worth-holds)

    -- Both ways, for any two terms that have a tag: by the records of these commands.
    pub terms-follow : {s t : Term} → In s → Known (length ns) (parts_of cs) (curry s) → Known (length ns) (parts_of cs) (curry t)
        → Follows Noted (tag_of (length ns) all (curry s)) (tag_of (length ns) all (curry t)) ↔ Everywhere In cs s t
    terms-follow i u v = (λ f R C H. job-congruence C H i (known_grown g u) (known_grown g v) f, λ e. congruence-job u v e)

-- The promise, for whatever the script's terms are taken to be.
pub promise : {cs : List Command} {In : Term → Type 0} → Terms (arities_of cs) cs In → Promised In cs
promise {cs} {In} D c d h k =
    let ns = arities_of cs in
    let rs = records_of (items_of cs) in
    let e = terms-follow D cs (parts_of cs) (λ t i. D.asserted i) (grown-same (parts_of cs)) {s = constant c} {t = constant d} (D.constants h) (leaf h.there) (leaf k.there) in
    (λ f. e.0 (more (whole_mem rs) f), λ x. more (mem_whole rs) (e.1 x))

-- A negated equality is broken exactly when its two terms are equal in every such congruence: so question 06 finds the first 05 that the equations contradict.
pub broken : {cs : List Command} {In : Term → Type 0} → Terms (arities_of cs) cs In → (s t : Term) → Memᴰ (differ s t) cs
    → FollowInJob cs (tag_of (symbols_of cs) (parts_of cs) (curry s)) (tag_of (symbols_of cs) (parts_of cs) (curry t)) ↔ Everywhere In cs s t
broken {cs} {In} D s t i =
    let rs = records_of (items_of cs) in
    let a : (t : Term) → Asserted cs t → In t = λ t j. D.asserted j in
    let e = terms-follow D cs (parts_of cs) a (grown-same (parts_of cs)) {s = s} {t = t} (D.asserted (differ-left i)) (asserted-known D cs a (differ-left i)) (asserted-known D cs a (differ-right i)) in
    (λ f. e.0 (more (whole_mem rs) f), λ x. more (mem_whole rs) (e.1 x))

-- Both readings of "the script's terms": every term over the declared symbols, and those alone that occur.
module _ {cs : List Command} (fit : (t : Term) → Asserted cs t → Built (arities_of cs) t) where
  built-declared : {f : ℕ} {ts : Args} → Built (arities_of cs) (call f ts) → Declared (arities_of cs) f (count ts)
  built-declared (built d h) = d

  built-argument : {f : ℕ} {t : Term} {ts : Args} → Built (arities_of cs) (call f ts) → Among t ts → Built (arities_of cs) t
  built-argument (built d h) i = h _ i

  none-among : {t : Term} → Among t none → ⊥
  none-among i = elim i [ ]

  built-constant : {c : ℕ} → Declared (arities_of cs) c 0 → Built (arities_of cs) (constant c)
  built-constant d = built d (λ t i. absurd (none-among i))

  occurring-built : {t : Term} → Occurring (arities_of cs) cs t → Built (arities_of cs) t
  occurring-built {t} (side i) = fit t i
  occurring-built (argument o i) = built-argument (occurring-built o) i
  occurring-built (plain d) = built-constant d

  pub all-terms : Terms (arities_of cs) cs (Built (arities_of cs))
  all-terms = record { declared = built-declared; arguments = built-argument; constants = built-constant; asserted = λ {t} i. fit t i }

  pub own-terms : Terms (arities_of cs) cs (Occurring (arities_of cs) cs)
  own-terms = record { declared = λ o. built-declared (occurring-built o); arguments = λ o i. argument o i; constants = plain; asserted = side }

  pub promise-all : Promised (Built (arities_of cs)) cs
  promise-all = promise all-terms

  pub promise-own : Promised (Occurring (arities_of cs) cs) cs
  promise-own = promise own-terms
