-- The search for the next record: questions have no record, so that passing over them leaves the records that stand ahead as they are;
-- and each lies within the job, so that the search ends.
-- Assumes nothing.
use Prim.Native.Nat.{ℕ, suc, ◌-◌, ◌≤◌, ◌<◌}
use native.Mathlib.Omega.{arith}
use mathlib.Core.Path.{◌≡◌, refl, sym, ◌∙◌, ap}
use mathlib.Core.Bool.{Bool, true, false, cond}
use mathlib.Core.List.{List, [], ◌∷◌}
use lib.ListN.{length}
use Rattle.meaning.specs.Following.{Rec}
use Rattle.job_field.specs.Items.{Head, line, differ, Item, noted, posed, records_of, sheets_of}
use Rattle.job_field.specs.Reading.{Field, bad, header, item, end, behind_at, field_standing}
use Rattle.job_field.specs.Standing.{Stands, Met}
use Rattle.job_field.proofs.Reading.{field-whole}
use Rattle.job_field.proofs.Standing.{stands-item, stands-end, stands-not-bad, stands-not-header}
use Rattle.records.specs.Table.{place_of}
use Rattle.records_fill.specs.declared.Found.{Found}
use Rattle.records_fill.specs.Seeking.{found_at, Ahead, begin, on, First, Seeks}

-- What the cursor says at a place says which items are ahead of it.
module _ (job : List ℕ) (H : Head) where
  ahead-item : (at : ℕ) (i : Item) (is : List Item) → Ahead job H at is → field_standing job at ≡ item i → Met job H.size at i is
  ahead-item at i is (begin h s) f = let z : ◌≡◌ {A = ℕ} 0 1 = cc in absurd (omega arith)
  ahead-item at i is (on s) f = stands-item job H.size at i is s f

  ahead-header : (at : ℕ) (M : Head) (is : List Item) → Ahead job H at is → field_standing job at ≡ header M → Stands job H.size (behind_at job at) is
  ahead-header at M is (begin h s) f = s
  ahead-header at M is (on s) f = absurd (stands-not-header job H.size at M is s f)

  ahead-end : (at : ℕ) (is : List Item) → Ahead job H at is → field_standing job at ≡ end → is ≡ []
  ahead-end at is (begin h s) f = let z : ◌≡◌ {A = ℕ} 0 1 = cc in absurd (omega arith)
  ahead-end at is (on s) f = stands-end job H.size at is s f

  ahead-not-bad : (at n : ℕ) (is : List Item) → Ahead job H at is → field_standing job at ≡ bad n → ⊥
  ahead-not-bad at n is (begin h s) f = let z : ◌≡◌ {A = ℕ} 0 1 = cc in omega arith
  ahead-not-bad at n is (on s) f = stands-not-bad job H.size at n is s f

-- How far the search has come: f is what stands at a place from which the same records stand ahead, with the same sheets.
pub record Seeking (job : List ℕ) (at : ℕ) (f : Found) : Type 0 where
  pub place : ℕ
  pub is : f ≡ found_at job place (field_standing job place)
  pub skips : (H : Head) (items : List Item) → Ahead job H at items → (others : List Item) × Ahead job H place others × (records_of others ≡ records_of items) × (sheets_of others ≡ sheets_of items)

module _ (job : List ℕ) (at : ℕ) where
  pub seeking-begin : (f : Found) → f ≡ found_at job at (field_standing job at) → Seeking job at f
  seeking-begin f e = record { place = at; is = e; skips = λ H items s. (items, s, refl, refl) }

  -- A field to be passed over was found at p.
  record Over (p : ℕ) (f : Found) : Type 0 where
    next : f.next ≡ behind_at job p
    there : behind_at job p ≤ length job
    skip : (H : Head) (items : List Item) → Ahead job H p items → (others : List Item) × Ahead job H (behind_at job p) others × (records_of others ≡ records_of items) × (sheets_of others ≡ sheets_of items)

  over : (p : ℕ) (f : Found) → f ≡ found_at job p (field_standing job p) → f.question ≡ true → Over p f
  over p f e q = go (field_standing job p) refl e
    where
      none : (X : Found) → X.question ≡ false → f ≡ X → Over p f
      none X h e = let z : true ≡ false = sym q ∙ ap (λ (g : Found). g.question) e ∙ h in let y : ◌≡◌ {A = ℕ} 0 1 = cc in absurd (omega arith)

      go : (X : Field) → field_standing job p ≡ X → f ≡ found_at job p X → Over p f
      go (bad n) h e = none _ refl e
      go (header n) h e = record {
        next = ap (λ (g : Found). g.next) e;
        there = field-whole job p (header n) tt h;
        skip = λ H items s. (items, on (ahead-header job H p n items s h), refl, refl);
      }
      go (item (noted (line r x))) h e = none _ refl e
      go (item (noted (differ x y))) h e = record {
        next = ap (λ (g : Found). g.next) e;
        there = field-whole job p (item (noted (differ x y))) tt h;
        skip = λ H items s. let m : Met job H.size p (noted (differ x y)) items = ahead-item job H p (noted (differ x y)) items s h in (m.rest, on m.onward, sym (ap records_of m.first), sym (ap sheets_of m.first));
      }
      go (item (posed u)) h e = record {
        next = ap (λ (g : Found). g.next) e;
        there = field-whole job p (item (posed u)) tt h;
        skip = λ H items s. let m : Met job H.size p (posed u) items = ahead-item job H p (posed u) items s h in (m.rest, on m.onward, sym (ap records_of m.first), sym (ap sheets_of m.first));
      }
      go end h e = none _ refl e

  pub seeking-on : (f g : Found) → Seeking job at f → f.question ≡ true → g ≡ found_at job f.next (field_standing job f.next) → Seeking job at g
  seeking-on f g s q e =
      let a : Over s.place f = over s.place f s.is q in
      record {
        place = behind_at job s.place;
        is = rw (← a.next) e;
        skips = λ H items h.
            let b = s.skips H items h in
            let c = a.skip H b.0 b.1 in
            (c.0, c.1, c.2 ∙ b.2, c.3 ∙ b.3);
      }

  -- What falls: what is left of the job behind a field that is passed over.
  abbrev pub left : Found → ℕ
  left f = cond f.question (suc (length job - f.next)) 0

  pub seeking-falls : (f g : Found) → Seeking job at f → f.question ≡ true → g ≡ found_at job f.next (field_standing job f.next) → left g < left f
  seeking-falls f g s q e = go g.question refl
    where
      go : (b : Bool) → g.question ≡ b → cond b (suc (length job - g.next)) 0 < left f
      go false h = rw q (omega arith)
      go true h =
          let a : Over s.place f = over s.place f s.is q in
          let c : Over f.next g = over f.next g e h in
          rw q (omega (arith, a.next, a.there, c.next, c.there))

  pub seeking-done : (f : Found) → Seeking job at f → f.question ≡ false → Seeks job at f
  seeking-done f s q H items r rs h hs a k j =
      let b = s.skips H items a in
      go b.0 b.1 (b.2 ∙ k) (b.3 ∙ j) (field_standing job s.place) refl s.is
    where
      none : (X : Found) → X.question ≡ true → f ≡ X → First job H r rs h hs f
      none X t e = let z : true ≡ false = sym (ap (λ (g : Found). g.question) e ∙ t) ∙ q in let y : ◌≡◌ {A = ℕ} 0 1 = cc in absurd (omega arith)

      go : (others : List Item) → Ahead job H s.place others → records_of others ≡ r ∷ rs → sheets_of others ≡ h ∷ hs → (X : Field) → field_standing job s.place ≡ X → f ≡ found_at job s.place X → First job H r rs h hs f
      go others t k j (bad n) x e = absurd (ahead-not-bad job H s.place n others t x)
      go others t k j (header n) x e = none _ refl e
      go others t k j (item (noted (line r' h'))) x e =
          let m : Met job H.size s.place (noted (line r' h')) others = ahead-item job H s.place (noted (line r' h')) others t x in
          let l : r' ∷ records_of m.rest ≡ r ∷ rs = sym (ap records_of m.first) ∙ k in
          let i : h' ∷ sheets_of m.rest ≡ h ∷ hs = sym (ap sheets_of m.first) ∙ j in
          let same : r' ≡ r = cc in
          let sheet : h' ≡ h = cc in
          record { others = m.rest; is = ap (λ (g : Found). g.place) e ∙ ap (λ (v : Rec). place_of v h') same ∙ ap (place_of r) sheet; behind = cc; sheets = cc; stands = rw (ap (λ (g : Found). g.next) e) (on m.onward) }
      go others t k j (item (noted (differ y z))) x e = none _ refl e
      go others t k j (item (posed u)) x e = none _ refl e
      go others t k j end x e =
          let l : [] ≡ r ∷ rs = sym (ap records_of (ahead-end job H s.place others t x)) ∙ k in
          let y : ◌≡◌ {A = ℕ} 0 1 = cc in absurd (omega arith)
