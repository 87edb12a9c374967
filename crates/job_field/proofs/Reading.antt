-- Laws of reading: what a field that was not refused has passed, and where it ends.
-- Each follows the definition's own order; the tests of a field that is not bad all held.
-- Assumes nothing.
use Prim.Native.Nat.{ℕ, zero, suc, ◌+◌, ◌≤◌, ◌<◌}
use native.Mathlib.Omega.{arith}
use mathlib.Core.Path.{◌≡◌, refl, sym, ap, subst}
use mathlib.Core.Bool.{Bool, true, false, cond, ◌&&◌}
use mathlib.Core.List.{List, [], ◌∷◌}
use borrow.Author.Tests.{eqb-true, ltb-true, leb-true, lt-leb, ne_eqb}
use lib.Dec.{eqb, ltb, leb}
use lib.ListN.{length}
use Rattle.meaning.specs.Limits.{most_tags}
use Rattle.job_field.specs.Items.{Head, Moment, after, Item, Reading, refused, accepted}
use Rattle.job_field.specs.Standing.{Below}
use Rattle.job_field.specs.Reading.{Kind, record-eq, record-app, sheeted-eq, sheeted-app, note-differ, question-ask, question-explain, question-broken, question-why, last, Field, bad, header, item, end, known, length_of_body, body_at, kind_later, kind_by_edition, sheeted_in, kind_at, byte_at, length_at, behind_at, or_else, field_of_kind, field_standing, counted, size_right, sized, filed, field_tags, tagged, checked, with, behind, onward, read_from}

-- A field that is not refused.
abbrev pub Sound : Field → Type 0
Sound (bad n) = ⊥
Sound (header N) = Unit {0}
Sound (item i) = Unit {0}
Sound end = Unit {0}

or_else-passed : (b : Bool) (n : ℕ) (f g : Field) → Sound g → or_else b n f ≡ g → (b ≡ true) × (f ≡ g)
or_else-passed true n f g s e = (refl, e)
or_else-passed false n f g s e = absurd (subst Sound (sym e) s)

tagged-passed : (N n : ℕ) (ts : List ℕ) (f g : Field) → Sound g → tagged N n ts f ≡ g → Below N ts × (f ≡ g)
tagged-passed N n [] f g s e = (tt, e)
tagged-passed N n (t ∷ ts) f g s e =
    let p = or_else-passed (ltb t N) n (tagged N (suc n) ts f) g s e in
    let q = tagged-passed N (suc n) ts f g s p.1 in
    ((ltb-true t N p.0, q.0), q.1)

-- A field that passed the second half of the order is the field of the first half, and its tests held.
pub record Passed (H : Head) (b : Moment) (f g : Field) : Type 0 where
  pub is : f ≡ g
  pub count : counted b g ≡ true
  pub number : sized g ≡ true
  pub tags : Below H.size (field_tags g)
  pub sheet : filed g ≡ true

pub checked-passed : (H : Head) (b : Moment) (f g : Field) → Sound g → checked H b f ≡ g → Passed H b f g
unfolding checked
checked-passed H b f g s e =
    let p = or_else-passed (counted b f) 7 (or_else (sized f) 6 (tagged H.size 11 (field_tags f) (or_else (filed f) 17 f))) g s e in
    let q = or_else-passed (sized f) 6 (tagged H.size 11 (field_tags f) (or_else (filed f) 17 f)) g s p.1 in
    let t = tagged-passed H.size 11 (field_tags f) (or_else (filed f) 17 f) g s q.1 in
    let h = or_else-passed (filed f) 17 f g s t.1 in
    let i : f ≡ g = h.1 in
    record { is = i; count = rw i at p.0; number = rw i at q.0; tags = rw i at t.0; sheet = rw i at h.0 }

-- Such a field stands whole in the job.
pub record Whole (job : List ℕ) (at : ℕ) (g : Field) : Type 0 where
  pub kind : known (kind_at (sheeted_in job) at (byte_at job at) (length_at job at)) ≡ true
  pub there : behind_at job at ≤ length job
  pub length : length_at job at ≡ length_of_body (kind_at (sheeted_in job) at (byte_at job at) (length_at job at))
  pub is : body_at job (at + 3) (kind_at (sheeted_in job) at (byte_at job at) (length_at job at)) ≡ g

pub field-passed : (job : List ℕ) (at : ℕ) (g : Field) → Sound g → field_standing job at ≡ g → Whole job at g
unfolding field_standing
field-passed job at g s e = go (or_else-passed _ _ _ g s e)
  where
    k : Kind
    k = kind_at (sheeted_in job) at (byte_at job at) (length_at job at)

    go : (leb (at + 3) (length job) ≡ true) × (field_of_kind job at k ≡ g) → Whole job at g
    go (h, e') = kinds (or_else-passed _ _ _ g s e')
      where
        kinds : (known k ≡ true) × (or_else (eqb (length_at job at) (length_of_body k)) 5 (or_else (leb (behind_at job at) (length job)) 3 (body_at job (at + 3) k)) ≡ g) → Whole job at g
        kinds (a, e'') = lengths (or_else-passed _ _ _ g s e'')
          where
            lengths : (eqb (length_at job at) (length_of_body k) ≡ true) × (or_else (leb (behind_at job at) (length job)) 3 (body_at job (at + 3) k) ≡ g) → Whole job at g
            lengths (b, e''') = bodies (or_else-passed _ _ _ g s e''')
              where
                bodies : (leb (behind_at job at) (length job) ≡ true) × (body_at job (at + 3) k ≡ g) → Whole job at g
                bodies (d, i) = record { kind = a; there = leb-true _ _ d; length = eqb-true _ _ b; is = i }

pub field-whole : (job : List ℕ) (at : ℕ) (g : Field) → Sound g → field_standing job at ≡ g → behind_at job at ≤ length job
field-whole job at g s e = (field-passed job at g s e).there

-- What a kind says behind the first field: an item, the end, or nothing, which is refused by 4.
abbrev pub NotFirst : Field → Type 0
NotFirst (bad n) = n ≡ 4
NotFirst (header M) = ⊥
NotFirst (item i) = Unit {0}
NotFirst end = Unit {0}

record Later (job : List ℕ) (at : ℕ) (k : Kind) : Type 0 where
  says : NotFirst (body_at job at k)

later-says : (job : List ℕ) (at b : ℕ) → Later job at (kind_later b)
later-says job at b = or (eqb b 1) record-eq tt (or (eqb b 2) record-app tt (or (eqb b 3) question-ask tt (or (eqb b 4) question-explain tt (or (eqb b 5) note-differ tt (or (eqb b 6) question-broken tt (or (eqb b 7) question-why tt (or (eqb b 127) last tt (record { says = refl }))))))))
  where
    or : {l : Kind} (p : Bool) (k : Kind) → NotFirst (body_at job at k) → Later job at l → Later job at (cond p k l)
    or true k h i = record { says = h }
    or false k h i = i

edition-says : (job : List ℕ) (at : ℕ) (e : Bool) (b : ℕ) → Later job at (kind_by_edition e b)
edition-says job at true b = go (eqb b 1) (eqb b 2)
  where
    go : (p q : Bool) → Later job at (cond p sheeted-eq (cond q sheeted-app (kind_later b)))
    go true q = record { says = tt }
    go false true = record { says = tt }
    go false false = later-says job at b
edition-says job at false b = later-says job at b

pub body-later : (job : List ℕ) (at : ℕ) (g : Field) → 0 < at → body_at job (at + 3) (kind_at (sheeted_in job) at (byte_at job at) (length_at job at)) ≡ g → NotFirst g
body-later job at g h e = subst NotFirst (rw (ne_eqb at 0 (omega arith)) at e) (edition-says job (at + 3) (sheeted_in job) (byte_at job at)).says

-- So N stands in the first field and nowhere else.
pub header-first : (job : List ℕ) (at : ℕ) (M : Head) → 0 < at → field_standing job at ≡ header M → ⊥
header-first job at M h e = body-later job at (header M) h (field-passed job at (header M) tt e).is

-- So what is accepted behind the first field is accepted with what it was read with.
abbrev pub Sized : Head → Reading → Type 0
Sized H (refused n p) = Unit {0}
Sized H (accepted M is) = M ≡ H

with-sized : (H : Head) (i : Item) (X : Reading) → Sized H X → Sized H (with i X)
with-sized H i (refused n p) h = tt
with-sized H i (accepted M is) h = h

behind-sized : (job : List ℕ) (H : Head) (at : ℕ) → Sized H (behind job H at)
behind-sized job H at = go (leb (length job) at)
  where
    go : (b : Bool) → Sized H (cond b (accepted H []) (refused 8 at))
    go true = refl
    go false = tt

pub read-sized : (n : ℕ) (job : List ℕ) (H : Head) (b : Moment) (at : ℕ) → 0 < at → Sized H (read_from n job H b at)
unfolding read_from
read-sized zero job H b at h = tt
read-sized (suc n) job H b at h = go (λ b' k. read-sized n job H b' (at + k) (omega arith)) (checked H b (field_standing job at)) refl
  where
    go : ((b' : Moment) (k : ℕ) → Sized H (read_from n job H b' (at + k))) → (g : Field) → checked H b (field_standing job at) ≡ g → Sized H (onward (read_from n job) job H b at g)
    go ih (bad m) e = tt
    go ih (header M) e = absurd (header-first job at M h (checked-passed H b (field_standing job at) (header M) tt e).is)
    go ih (item i) e = with-sized H i (read_from n job H (after i b) (behind_at job at)) (ih (after i b) (3 + length_at job at))
    go ih end e = behind-sized job H (behind_at job at)

pub and-true : (a b : Bool) → (a && b) ≡ true → (a ≡ true) × (b ≡ true)
and-true true b e = (refl, e)
and-true false b e = let z : ◌≡◌ {A = ℕ} 0 1 = cc in absurd (omega arith)

-- N and U that were tested are in range.
pub size-right : (H : Head) → size_right H ≡ true → (1 ≤ H.size) × (H.size ≤ most_tags) × (H.units ≤ H.size)
size-right H e =
    let p = and-true (ltb 0 H.size) (leb H.size most_tags && leb H.units H.size) e in
    let q = and-true (leb H.size most_tags) (leb H.units H.size) p.1 in
    let low : 0 < H.size = ltb-true 0 H.size p.0 in
    (omega arith, leb-true H.size most_tags q.0, leb-true H.units H.size q.1)

-- Beyond the job nothing is read.
field-beyond : (job : List ℕ) (at : ℕ) → length job < at → field_standing job at ≡ bad 3
unfolding field_standing
field-beyond job at h = rw (lt-leb (at + 3) (length job) (omega arith))

read-beyond : (n : ℕ) (job : List ℕ) (H : Head) (b : Moment) (at : ℕ) → length job < at → read_from n job H b at ≡ refused 3 at
unfolding read_from checked
read-beyond zero job H b at h = refl
read-beyond (suc n) job H b at h = let e : at + 0 ≡ at = omega arith in rw (field-beyond job at h, e)

-- The fuel of reading is enough: with any two numbers of fields above what is left of the job, the same is read.
pub read-enough : (m n : ℕ) (job : List ℕ) (H : Head) (b : Moment) (at : ℕ) → length job < at + m → length job < at + n → read_from m job H b at ≡ read_from n job H b at
unfolding read_from
read-enough zero n job H b at x y = sym (read-beyond n job H b at (omega arith))
read-enough (suc m) zero job H b at x y = read-beyond (suc m) job H b at (omega arith)
read-enough (suc m) (suc n) job H b at x y = go (λ H' b' k l. read-enough m n job H' b' (at + k) (omega arith) (omega arith)) (checked H b (field_standing job at))
  where
    go : ((H' : Head) (b' : Moment) (k : ℕ) → 3 ≤ k → read_from m job H' b' (at + k) ≡ read_from n job H' b' (at + k)) → (g : Field) → onward (read_from m job) job H b at g ≡ onward (read_from n job) job H b at g
    go ih (bad k) = refl
    go ih (header M) = ih M b (3 + length_at job at) (omega arith)
    go ih (item i) = ap (with i) (ih H (after i b) (3 + length_at job at) (omega arith))
    go ih end = refl
