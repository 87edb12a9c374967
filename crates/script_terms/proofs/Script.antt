-- A script's job: which records it has, and that two declared constants follow equal in it exactly when they are equal in every congruence on the script's
-- terms that holds its equations. Assumes nothing.
use Prim.Native.Nat.{ℕ, zero, suc, ◌<◌}
use native.Mathlib.Omega.{arith}
use mathlib.Core.Path.{◌≡◌, refl, sym, ◌∙◌, ap}
use mathlib.Core.Logic.{◌⊎◌, inl, inr}
use mathlib.Core.List.Memᴰ
use mathlib.Core.List.{List, [], ◌∷◌, ◌++◌, map, Memᴰ}
use lib.ListN.{length, get_or, drop}
use Rattle.meaning.specs.Following.{Rec, eq, UpTo}
use Rattle.script_terms.specs.Terms.{Term, Command, declare, equal, differ, check}
use Rattle.script_terms.specs.Flat.{Part, curry, met, after, parts_from, tag_of, record_of, Item, noted, differing, checking, records_of, new_items, own_of, items_from}
use Rattle.script_terms.proofs.Lists.{Grown, grown-same, grown-on, grown-in, grown-cases, new_in, met-grown}

-- The records of a list, by number and by membership.
mem-at : {r : Rec} {rs : List Rec} → Memᴰ r rs → (i : ℕ) × (i < length rs) × (get_or rs i (eq 0 0) ≡ r)
mem-at (Memᴰ.head e) = (0, omega arith, sym e)
mem-at (Memᴰ.tail m) = let x = mem-at m in (suc x.0, omega (arith, x.1), x.2)

at_mem : {r : Rec} (rs : List Rec) (i : ℕ) → i < length rs → get_or rs i (eq 0 0) ≡ r → Memᴰ r rs
at_mem [] i h e = absurd (omega arith)
at_mem (x ∷ rs) zero h e = Memᴰ.head (sym e)
at_mem (x ∷ rs) (suc i) h e = Memᴰ.tail (at_mem rs i (omega arith) e)

-- "In the job": by all its records.
abbrev pub Whole : List Rec → Rec → Type 0
Whole rs = UpTo rs (length rs)

pub mem_whole : (rs : List Rec) (r : Rec) → Memᴰ r rs → Whole rs r
mem_whole rs r m = let x = mem-at m in (suc x.0, omega (arith, x.1), record { place = x.0; number = refl; stands = x.1; is = x.2 })

pub whole_mem : (rs : List Rec) (r : Rec) → Whole rs r → Memᴰ r rs
whole_mem rs r w = at_mem rs w.2.place w.2.stands w.2.is

-- The records of items in a row.
pub records-append : (is js : List Item) → records_of (is ++ js) ≡ records_of is ++ records_of js
records-append [] js = refl
records-append (noted r ∷ is) js = ap (λ l. r ∷ l) (records-append is js)
records-append (differing a b ∷ is) js = records-append is js
records-append (checking ∷ is) js = records-append is js

records-noted : (f : Part → Rec) (l : List Part) → records_of (map (λ p. noted (f p)) l) ≡ map f l
records-noted f [] = refl
records-noted f (p ∷ l) = ap (λ m. f p ∷ m) (records-noted f l)

pub after-grown : (l : List Part) (c : Command) → Grown l (after l c)
after-grown l (declare n) = grown-same l
after-grown l (equal s t) = grown-on (met-grown l (curry s)) (met-grown (met l (curry s)) (curry t))
after-grown l (differ s t) = grown-on (met-grown l (curry s)) (met-grown (met l (curry s)) (curry t))
after-grown l check = grown-same l

pub parts-grown : (l : List Part) (cs : List Command) → Grown l (parts_from l cs)
parts-grown l [] = grown-same l
parts-grown l (c ∷ cs) = grown-on (after-grown l c) (parts-grown (after l c) cs)

-- The records that a command makes: those of the parts that are new, and its own.
module _ (S : ℕ) (all : List Part) where
  abbrev pub rest : List Part → Command → List Command → List Rec
  rest l c cs = records_of (items_from S all (after l c) cs)

  pub records-of : (l : List Part) (c : Command) (cs : List Command) → records_of (items_from S all l (c ∷ cs)) ≡ map (record_of S all) (drop (length l) (after l c)) ++ (records_of (own_of S all c) ++ rest l c cs)
  records-of l c cs =
      records-append (new_items S all l c) (own_of S all c ++ items_from S all (after l c) cs) ∙ rw (records-append (own_of S all c) (items_from S all (after l c) cs), records-noted (record_of S all) (drop (length l) (after l c))) refl

  pub part-recorded : (l : List Part) (cs : List Command) {p : Part} → Memᴰ p (parts_from l cs) → Memᴰ p l ⊎ Memᴰ (record_of S all p) (records_of (items_from S all l cs))
  part-recorded l [] i = inl i
  part-recorded l (c ∷ cs) {p} i = go (part-recorded (after l c) cs i)
    where
      new : Memᴰ p l ⊎ Memᴰ p (drop (length l) (after l c)) → Memᴰ p l ⊎ Memᴰ (record_of S all p) (records_of (items_from S all l (c ∷ cs)))
      new (inl j) = inl j
      new (inr j) = inr (rw (records-of l c cs) (Memᴰ.append_left (records_of (own_of S all c) ++ rest l c cs) (Memᴰ.map (record_of S all) j)))

      go : Memᴰ p (after l c) ⊎ Memᴰ (record_of S all p) (records_of (items_from S all (after l c) cs)) → Memᴰ p l ⊎ Memᴰ (record_of S all p) (records_of (items_from S all l (c ∷ cs)))
      go (inl j) = new (grown-cases (after-grown l c) j)
      go (inr j) = inr (rw (records-of l c cs) (Memᴰ.append_right (map (record_of S all) (drop (length l) (after l c))) (Memᴰ.append_right (records_of (own_of S all c)) j)))

  pub equation-recorded : (l : List Part) (cs : List Command) {s t : Term} → Memᴰ (equal s t) cs → Memᴰ (eq (tag_of S all (curry s)) (tag_of S all (curry t))) (records_of (items_from S all l cs))
  equation-recorded l [] i = absurd (Memᴰ.not-nil i)
  equation-recorded l (c ∷ cs) {s} {t} i = go (Memᴰ.cases_cons i) (equation-recorded (after l c) cs)
    where
      r : Rec
      r = eq (tag_of S all (curry s)) (tag_of S all (curry t))

      own : (c : Command) → equal s t ≡ c → Memᴰ (eq (tag_of S all (curry s)) (tag_of S all (curry t))) (records_of (own_of S all c))
      own c e = rw (sym e) (Memᴰ.head refl)

      go : (equal s t ≡ c) ⊎ Memᴰ (equal s t) cs → (Memᴰ (equal s t) cs → Memᴰ (eq (tag_of S all (curry s)) (tag_of S all (curry t))) (records_of (items_from S all (after l c) cs)))
          → Memᴰ (eq (tag_of S all (curry s)) (tag_of S all (curry t))) (records_of (items_from S all l (c ∷ cs)))
      go (inl e) f = rw (records-of l c cs) (Memᴰ.append_right (map (record_of S all) (drop (length l) (after l c))) (Memᴰ.append_left (rest l c cs) (own c e)))
      go (inr j) f = rw (records-of l c cs) (Memᴰ.append_right (map (record_of S all) (drop (length l) (after l c))) (Memᴰ.append_right (records_of (own_of S all c)) (f j)))

  -- And no others.
  pub data Source (l : List Part) (cs : List Command) (r : Rec) : Type 0 where
    of_part : {p : Part} → Memᴰ p (parts_from l cs) → r ≡ record_of S all p → Source l cs r
    of-equation : {s t : Term} → Memᴰ (equal s t) cs → r ≡ eq (tag_of S all (curry s)) (tag_of S all (curry t)) → Source l cs r

  source-behind : {l : List Part} {c : Command} {cs : List Command} {r : Rec} → Source (after l c) cs r → Source l (c ∷ cs) r
  source-behind (of_part i e) = of_part i e
  source-behind (of-equation i e) = of-equation (Memᴰ.tail i) e

  pub record-source : (l : List Part) (cs : List Command) {r : Rec} → Memᴰ r (records_of (items_from S all l cs)) → Source l cs r
  record-source l [] i = absurd (Memᴰ.not-nil i)
  record-source l (c ∷ cs) {r} i = front (Memᴰ.append_cases (map (record_of S all) (drop (length l) (after l c))) (rw (records-of l c cs) at i)) (record-source (after l c) cs)
    where
      own : (c : Command) → Memᴰ r (records_of (own_of S all c)) → Source l (c ∷ cs) r
      own (declare n) j = absurd (Memᴰ.not-nil j)
      own (equal s t) j = of-equation (Memᴰ.head refl) (Memᴰ.eq_of_singleton j)
      own (differ s t) j = absurd (Memᴰ.not-nil j)
      own check j = absurd (Memᴰ.not-nil j)

      back : Memᴰ r (records_of (own_of S all c)) ⊎ Memᴰ r (rest l c cs) → (Memᴰ r (records_of (items_from S all (after l c) cs)) → Source (after l c) cs r) → Source l (c ∷ cs) r
      back (inl j) f = own c j
      back (inr j) f = source-behind (f j)

      front : Memᴰ r (map (record_of S all) (drop (length l) (after l c))) ⊎ Memᴰ r (records_of (own_of S all c) ++ rest l c cs)
          → (Memᴰ r (records_of (items_from S all (after l c) cs)) → Source (after l c) cs r) → Source l (c ∷ cs) r
      front (inl j) f = let x = Memᴰ.of_map (record_of S all) (drop (length l) (after l c)) j in of_part (grown-in (parts-grown (after l c) cs) (new_in (after-grown l c) x.1)) (sym x.2)
      front (inr j) f = back (Memᴰ.append_cases (records_of (own_of S all c)) j) f
