-- An accepted job is met by the cursor item for item: reading went from field to field by the same definition.
-- Induction over the fields that are read.
-- Assumes nothing.
use Prim.Native.Nat.{ℕ, zero, suc, ◌+◌, ◌≤◌, ◌<◌}
use native.Mathlib.Omega.{arith}
use mathlib.Core.Path.{◌≡◌, refl, sym, ap, subst}
use mathlib.Core.Bool.{Bool, true, false, cond}
use mathlib.Core.List.{List, [], ◌∷◌}
use borrow.Author.Tests.{eqb-true, ltb-true, leb-true}
use lib.Dec.{eqb, leb}
use lib.ListN.{length}
use Rattle.meaning.specs.Limits.{most_differs, most_questions, most_records}
use Rattle.job_field.specs.Items.{Head, unsized, head_of, items_of, Moment, start, after, Item, noted, posed, Reading, refused, accepted, records_of, pairs_of, questions_of}
use Rattle.job_field.specs.Reading.{Field, bad, header, item, end, field_standing, sheeted_in, edition_of, byte_at, length_at, kind_first, body_at, behind_at, checked, counted, with, behind, onward, read_from, reading, head_in, items_in, first, first-units, first-sheets, unknown}
use Rattle.job_field.specs.Standing.{Few, Stands, ends, next, Job, Met}
use Rattle.job_field.proofs.Items.{after-records, after-differs, after-questions}
use Rattle.job_field.proofs.Reading.{Passed, checked-passed, field-whole, field-passed, header-first, and-true, size-right}

-- What is read behind the first field, where it is accepted.
record Rest (job : List ℕ) (H : Head) (b : Moment) (at : ℕ) (M : Head) (items : List Item) : Type 0 where
  size : M ≡ H
  stands : Stands job H.size at items
  records : b.records + length (records_of items) ≤ most_records
  differs : b.differs + length (pairs_of items) ≤ most_differs
  questions : b.questions + questions_of items ≤ most_questions

record Split (i : Item) (X : Reading) (M : Head) (items : List Item) : Type 0 where
  others : List Item
  is : X ≡ accepted M others
  first : items ≡ i ∷ others

with-split : (i : Item) (X : Reading) (M : Head) (items : List Item) → with i X ≡ accepted M items → Split i X M items
with-split i (refused n p) M items e = let z : ◌≡◌ {A = ℕ} 0 1 = cc in absurd (omega arith)
with-split i (accepted N is) M items e = record { others = is; is = cc; first = cc }

record Ended (job : List ℕ) (H : Head) (at : ℕ) (M : Head) (items : List Item) : Type 0 where
  size : M ≡ H
  none : items ≡ []
  last : length job ≤ at

behind-ended : (job : List ℕ) (H : Head) (at : ℕ) (M : Head) (items : List Item) → behind job H at ≡ accepted M items → Ended job H at M items
behind-ended job H at M items e = go (leb (length job) at) refl e
  where
    go : (b : Bool) → leb (length job) at ≡ b → cond b (accepted H []) (refused 8 at) ≡ accepted M items → Ended job H at M items
    go true h e = record { size = cc; none = cc; last = leb-true (length job) at h }
    go false h e = let z : ◌≡◌ {A = ℕ} 0 1 = cc in absurd (omega arith)

-- Nothing stands before the first field, and behind an item that was counted stand no more than are allowed.
pub start-few : Few start
start-few = record { records = omega arith; differs = omega arith; questions = omega arith }

pub after-few : (b : Moment) (i : Item) → Few b → counted b (item i) ≡ true → Few (after i b)
after-few b (noted n) f c = let p = and-true _ _ c in record { records = leb-true _ _ p.0; differs = leb-true _ _ p.1; questions = f.questions }
after-few b (posed q) f c = let l : b.questions < most_questions = ltb-true _ _ c in record { records = f.records; differs = f.differs; questions = omega arith }

module _ (job : List ℕ) (H : Head) where
  rest : (n : ℕ) (b : Moment) (at : ℕ) (M : Head) (items : List Item) → 0 < at → Few b → read_from n job H b at ≡ accepted M items → Rest job H b at M items
  unfolding read_from
  rest zero b at M items h f e = let z : ◌≡◌ {A = ℕ} 0 1 = cc in absurd (omega arith)
  rest (suc n) b at M items h f e = go (rest n) (checked H b (field_standing job at)) refl e
    where
      go :
          ((b' : Moment) (at' : ℕ) (M' : Head) (is : List Item) → 0 < at' → Few b' → read_from n job H b' at' ≡ accepted M' is → Rest job H b' at' M' is)
          → (g : Field)
          → checked H b (field_standing job at) ≡ g
          → onward (read_from n job) job H b at g ≡ accepted M items
          → Rest job H b at M items
      go ih (bad m) c e = let z : ◌≡◌ {A = ℕ} 0 1 = cc in absurd (omega arith)
      go ih (header m) c e = absurd (header-first job at m h (checked-passed H b (field_standing job at) (header m) tt c).is)
      go ih (item i) c e =
          let p : Passed H b (field_standing job at) (item i) = checked-passed H b (field_standing job at) (item i) tt c in
          let s : Split i (read_from n job H (after i b) (behind_at job at)) M items = with-split i _ M items e in
          let v : Rest job H (after i b) (behind_at job at) M s.others = ih (after i b) (behind_at job at) M s.others (omega arith) (after-few b i f p.count) s.is in
          rw s.first
          (record {
            size = v.size;
            stands = next p.is p.tags p.sheet (field-whole job at (item i) tt p.is) v.stands;
            records = rw (after-records b i s.others) at v.records;
            differs = rw (after-differs b i s.others) at v.differs;
            questions = rw (after-questions b i s.others) at v.questions;
          })
      go ih end c e =
          let p : Passed H b (field_standing job at) end = checked-passed H b (field_standing job at) end tt c in
          let d : Ended job H (behind_at job at) M items = behind-ended job H (behind_at job at) M items e in
          rw d.none
          (record {
            size = d.size;
            stands = ends p.is (omega (arith, d.last, field-whole job at end tt p.is));
            records = omega (arith, f.records);
            differs = omega (arith, f.differs);
            questions = omega (arith, f.questions);
          })

-- The first field is no end field.
first_body : (job : List ℕ) (at b n : ℕ) → body_at job at (kind_first b n) ≡ end → ⊥
first_body job at b n e = go (eqb b 16) (eqb n 4) (eqb b 17) e
  where
    go : (c d s : Bool) → body_at job at (cond c (cond d first-units first) (cond s first-sheets unknown)) ≡ end → ⊥
    go true true s e = let z : ◌≡◌ {A = ℕ} 0 1 = cc in omega arith
    go true false s e = let z : ◌≡◌ {A = ℕ} 0 1 = cc in omega arith
    go false d true e = let z : ◌≡◌ {A = ℕ} 0 1 = cc in omega arith
    go false d false e = let z : ◌≡◌ {A = ℕ} 0 1 = cc in omega arith

no-end-first : (job : List ℕ) → field_standing job 0 ≡ end → ⊥
no-end-first job e = first_body job 3 (byte_at job 0) (length_at job 0) (field-passed job 0 end tt e).is

-- No item stands at 0.
pub no-item-first : (job : List ℕ) (i : Item) → field_standing job 0 ≡ item i → ⊥
no-item-first job i e = go (eqb (byte_at job 0) 16) (eqb (length_at job 0) 4) (eqb (byte_at job 0) 17) (field-passed job 0 (item i) tt e).is
  where
    go : (c d s : Bool) → body_at job 3 (cond c (cond d first-units first) (cond s first-sheets unknown)) ≡ item i → ⊥
    go true true s e = let z : ◌≡◌ {A = ℕ} 0 1 = cc in omega arith
    go true false s e = let z : ◌≡◌ {A = ℕ} 0 1 = cc in omega arith
    go false d true e = let z : ◌≡◌ {A = ℕ} 0 1 = cc in omega arith
    go false d false e = let z : ◌≡◌ {A = ℕ} 0 1 = cc in omega arith

-- The first field says which edition it is: its first byte is 11 hex exactly if its records have sheets.
pub edition-first : (job : List ℕ) (H : Head) → field_standing job 0 ≡ header H → H.sheeted ≡ sheeted_in job
edition-first job H e = go (eqb (byte_at job 0) 16) (eqb (length_at job 0) 4) (eqb (byte_at job 0) 17) refl refl (field-passed job 0 (header H) tt e).is
  where
    go : (c d s : Bool) → eqb (byte_at job 0) 16 ≡ c → eqb (byte_at job 0) 17 ≡ s → body_at job 3 (cond c (cond d first-units first) (cond s first-sheets unknown)) ≡ header H → H.sheeted ≡ s
    go true d true x y e = absurd (omega (arith, eqb-true (byte_at job 0) 16 x, eqb-true (byte_at job 0) 17 y))
    go true true false x y e = sym (ap edition_of e)
    go true false false x y e = sym (ap edition_of e)
    go false d true x y e = sym (ap edition_of e)
    go false d false x y e = let z : ◌≡◌ {A = ℕ} 0 1 = cc in absurd (omega arith)

-- On an accepted job the cursor meets exactly the items, in order: N first, then behind it the items, the end field, and nothing.
pub accepted-stands : (job : List ℕ) (H : Head) (items : List Item) → reading job ≡ accepted H items → Job job H items
unfolding reading read_from
accepted-stands job H items e = go (checked unsized start (field_standing job 0)) refl e
  where
    go : (g : Field) → checked unsized start (field_standing job 0) ≡ g → onward (read_from (length job) job) job unsized start 0 g ≡ accepted H items → Job job H items
    go (bad m) c e = let z : ◌≡◌ {A = ℕ} 0 1 = cc in absurd (omega arith)
    go (header M) c e =
        let p : Passed unsized start (field_standing job 0) (header M) = checked-passed unsized start (field_standing job 0) (header M) tt c in
        let t = size-right M p.number in
        let v : Rest job M start (behind_at job 0) H items = rest job M (length job) start (behind_at job 0) H items (omega arith) start-few e in
        rw v.size (record { some = t.0; most = t.1; units = t.2; records = omega (arith, v.records); differs = omega (arith, v.differs); questions = omega (arith, v.questions); first = p.is; stands = v.stands })
    go (item i) c e = absurd (no-item-first job i (checked-passed unsized start (field_standing job 0) (item i) tt c).is)
    go end c e = absurd (no-end-first job (checked-passed unsized start (field_standing job 0) end tt c).is)

-- The same by the job's bytes alone.
pub job-stands : (job : List ℕ) (H : Head) (items : List Item) → reading job ≡ accepted H items → Job job (head_in job) (items_in job)
job-stands job H items e = subst (λ (X : Reading). Job job (head_of X) (items_of X)) (sym e) (accepted-stands job H items e)

-- Stepping through: what the cursor says at a place says what stands there.
module _ (job : List ℕ) (N : ℕ) where
  pub stands-item : (at : ℕ) (i : Item) (is : List Item) → Stands job N at is → field_standing job at ≡ item i → Met job N at i is
  stands-item at i is (ends e l) f = let z : ◌≡◌ {A = ℕ} 0 1 = cc in absurd (omega arith)
  stands-item at i is (next {i = j} {is = js} e t h l s) f = let same : j ≡ i = cc in record { rest = js; first = rw same; tags = rw (← same) t; sheet = rw (← same) h; there = l; onward = s }

  pub stands-end : (at : ℕ) (is : List Item) → Stands job N at is → field_standing job at ≡ end → is ≡ []
  stands-end at is (ends e l) f = refl
  stands-end at is (next e t h l s) f = let z : ◌≡◌ {A = ℕ} 0 1 = cc in absurd (omega arith)

  pub stands-not-bad : (at n : ℕ) (is : List Item) → Stands job N at is → field_standing job at ≡ bad n → ⊥
  stands-not-bad at n is (ends e l) f = let z : ◌≡◌ {A = ℕ} 0 1 = cc in omega arith
  stands-not-bad at n is (next e t h l s) f = let z : ◌≡◌ {A = ℕ} 0 1 = cc in omega arith

  pub stands-not-header : (at : ℕ) (n : Head) (is : List Item) → Stands job N at is → field_standing job at ≡ header n → ⊥
  stands-not-header at n is (ends e l) f = let z : ◌≡◌ {A = ℕ} 0 1 = cc in omega arith
  stands-not-header at n is (next e t h l s) f = let z : ◌≡◌ {A = ℕ} 0 1 = cc in omega arith

  -- The same from the items: which field the cursor meets.
  pub stands-first : (at : ℕ) (i : Item) (is : List Item) → Stands job N at (i ∷ is) → field_standing job at ≡ item i
  stands-first at i is (next e t h l s) = e

  pub stands-rest : (at : ℕ) (i : Item) (is : List Item) → Stands job N at (i ∷ is) → Stands job N (behind_at job at) is
  stands-rest at i is (next e t h l s) = s

  pub stands-last : (at : ℕ) → Stands job N at [] → field_standing job at ≡ end
  stands-last at (ends e l) = e

  pub stands-within : (at : ℕ) (is : List Item) → Stands job N at is → at + 3 ≤ length job
  stands-within at is (ends e l) = omega arith
  stands-within at is (next e t h l s) = omega arith
