-- The walk to a pair: each item that is passed takes its own pairs off the number, so that the same pair stands ahead.
-- Assumes nothing.
use Prim.Native.Nat.{ℕ, suc, ◌+◌, ◌-◌, ◌≤◌, ◌<◌}
use native.Mathlib.Omega.{arith}
use mathlib.Core.Path.{◌≡◌, refl, sym, ◌∙◌, ap}
use mathlib.Core.List.{List, [], ◌∷◌, ◌++◌}
use lib.ListN.{length, length-append}
use Rattle.job_field.specs.Items.{Pair, Note, line, differ, pairs_noted, Item, noted, posed, pairs_of}
use Rattle.job_field.specs.Reading.{Field, item, field_standing, behind_at, head_in, items_in}
use Rattle.job_field.specs.Standing.{Stands, ends, next, Tagged}
use Rattle.job_field.proofs.Standing.{stands-within}
use Rattle.report.specs.Broken.{pair_no}
use Rattle.pairs.specs.declared.Differing.{Differing}
use Rattle.pairs.specs.Found.{pairs_at, first_in, pair_of, Sought, Found}

-- From a place on the pair is number `left` of those that stand ahead.
pub record Seeking (job : List ℕ) (number at left : ℕ) : Type 0 where
  pub rest : List Item
  pub stands : Stands job (head_in job).size at rest
  pub some : 1 ≤ left
  pub most : left ≤ length (pairs_of rest)
  pub same : pair_no (pairs_of rest) left ≡ pair_no (pairs_of (items_in job)) number

pub seeking-begin : (job : List ℕ) (number at : ℕ) → Sought job number → at ≡ behind_at job 0 → Seeking job number at number
seeking-begin job number at s e = record { rest = items_in job; stands = rw e s.stands.stands; some = s.some; most = s.most; same = refl }

pub seeking-within : {job : List ℕ} {number at left : ℕ} → Seeking job number at left → at + 3 ≤ length job
seeking-within {job} {number} {at} s = stands-within job (head_in job).size at s.rest s.stands

-- Pairs behind some others, by number.
past-front : (qs ps : List Pair) (k : ℕ) → length qs < k → pair_no (qs ++ ps) k ≡ pair_no ps (k - length qs)
past-front [] ps k l = let e : k - 0 ≡ k = omega arith in rw e
past-front (q ∷ qs) ps k l =
    let a : k - 1 ≡ suc (k - 1 - 1) = omega arith in
    let b : k - suc (length qs) ≡ k - 1 - length qs = omega arith in
    rw (a, b) (past-front qs ps (k - 1) (omega arith))

pairs-cons : (i : Item) (is : List Item) → pairs_of (i ∷ is) ≡ pairs_at (item i) ++ pairs_of is
pairs-cons (noted n) is = refl
pairs-cons (posed q) is = refl

-- A field that is passed.
module _ {job : List ℕ} {number at left : ℕ} where
  pub seeking-on : (s : Seeking job number at left) (here : ℕ) → here ≡ length (pairs_at (field_standing job at)) → here < left → Seeking job number (behind_at job at) (left - here)
  seeking-on s here e h = go s.rest s.stands s.most s.same
    where
      go : (rest : List Item) → Stands job (head_in job).size at rest → left ≤ length (pairs_of rest) → pair_no (pairs_of rest) left ≡ pair_no (pairs_of (items_in job)) number → Seeking job number (behind_at job at) (left - here)
      go rest (ends f l) m q = absurd (omega (arith, s.some))
      go rest (next {i = i} {is = is} f t v l st) m q =
          let k : here ≡ length (pairs_at (item i)) = e ∙ ap (λ (g : Field). length (pairs_at g)) f in
          let n : pair_no (pairs_at (item i) ++ pairs_of is) left ≡ pair_no (pairs_of (items_in job)) number = rw (← pairs-cons i is) q in
          record {
            rest = is;
            stands = st;
            some = omega arith;
            most = omega (arith, ap length (pairs-cons i is), length-append (pairs_at (item i)) (pairs_of is));
            same = rw k (sym (past-front (pairs_at (item i)) (pairs_of is) left (omega arith)) ∙ n);
          }

  pub seeking-closer : Seeking job number at left → (at < behind_at job at) × (behind_at job at ≤ length job)
  seeking-closer s = go s.rest s.stands
    where
      go : (rest : List Item) → Stands job (head_in job).size at rest → (at < behind_at job at) × (behind_at job at ≤ length job)
      go rest (ends f l) = (omega arith, omega arith)
      go rest (next f t v l st) = (omega arith, l)

-- The field that has it.
module _ {job : List ℕ} {number left : ℕ} where
  note-found : (n : Note) (is : List Item) (p : Differing) → Tagged (head_in job).size (noted n) → left ≤ length (pairs_noted n) → 1 ≤ left → pair_of p ≡ first_in (pairs_noted n)
      → pair_no (pairs_noted n ++ pairs_of is) left ≡ pair_no (pairs_of (items_in job)) number → Found job number p
  note-found (line r v) is p t h s e q = absurd (omega arith)
  note-found (differ a b) is p t h s e q =
      let one : left ≡ 1 = omega arith in
      let x : p.s.0 ≡ a = ap (λ (y : Pair). y.first) e in
      let z : p.t.0 ≡ b = ap (λ (y : Pair). y.second) e in
      record { is = sym (rw one at q) ∙ sym e; from = rw x t.0; to = rw z t.1.0 }

module _ {job : List ℕ} {number at left : ℕ} where
  pub seeking-found : (s : Seeking job number at left) (here : ℕ) (p : Differing) → here ≡ length (pairs_at (field_standing job at)) → left ≤ here → pair_of p ≡ first_in (pairs_at (field_standing job at)) → Found job number p
  seeking-found s here p e h x = go s.rest s.stands s.same
    where
      go : (rest : List Item) → Stands job (head_in job).size at rest → pair_no (pairs_of rest) left ≡ pair_no (pairs_of (items_in job)) number → Found job number p
      go rest (ends f l) q = let k : here ≡ 0 = e ∙ ap (λ (g : Field). length (pairs_at g)) f in absurd (omega (arith, s.some))
      go rest (next {i = noted n} {is = is} f t v l st) q =
          let k : here ≡ length (pairs_noted n) = e ∙ ap (λ (g : Field). length (pairs_at g)) f in
          note-found n is p t (omega arith) s.some (x ∙ ap (λ (g : Field). first_in (pairs_at g)) f) q
      go rest (next {i = posed u} {is = is} f t v l st) q = let k : here ≡ 0 = e ∙ ap (λ (g : Field). length (pairs_at g)) f in absurd (omega (arith, s.some))
