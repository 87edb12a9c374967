-- Two outcomes that meet the promise of the simulator's call on the same lent things are one: reading is a function, the cases exclude each other, what is told is one,
-- and a table of a length whose places are all told is one.
-- Assumes nothing.
use Prim.Native.Nat.{ℕ}
use native.Mathlib.Omega.{arith}
use mathlib.Core.Path.{◌≡◌, refl, ap}
use mathlib.Core.Bool.{Bool}
use mathlib.Core.List.{List, ◌++◌}
use lib.ListN.{length, drop}
use Rattle.job_field.specs.Items.{Head, Item, Reading, accepted, records_of}
use Rattle.records.specs.declared.Record.{Record}
use Rattle.report.specs.Report.{numbers}
use Rattle.call_look.specs.Lent.{Emptied}
use Rattle.haltzurme.proofs.One.{cleared-one, blanked-one, lent-not, clash, refused-one, accepted-one}
use Rattle.slow_passes.specs.Passes.{Told}
use Rattle.slow_passes.proofs.Passes.{told-one}
use Rattle.slow_rest.specs.Counted.{Counted, long, narrow, unread, cramped, answered}
use Rattle.slow_call.specs.OneCount.{OneCount}

-- Nothing lent has changed.
unchanged : {n p : ℕ} {room : List ℕ} {t : List Record} {w : List ℕ} → OneCount n p 0 room t w n p 0 room t w
unchanged = record { number = refl; place = refl; count = refl; rooms = refl; tables = refl; works = refl }

-- So both have as many tags.
size-one : {X : Reading} {H H' : Head} {items items' : List Item} → X ≡ accepted H items → X ≡ accepted H' items' → H.size ≡ H'.size
size-one e f = let a = accepted-one e f in ap (λ (x : Head). x.size) a.0

module _ {t : List Record} {w : List ℕ} {t₁ t₂ : List Record} {w₁ w₂ : List ℕ} (m : Emptied t w t₁ w₁) (m' : Emptied t w t₂ w₂) where
  refused-same : {n p n' p' : ℕ} {room : List ℕ} → n ≡ n' → p ≡ p' → OneCount n p 0 room t₁ w₁ n' p' 0 room t₂ w₂
  refused-same a b = record { number = a; place = b; count = refl; rooms = refl; tables = blanked-one m.blanked m'.blanked; works = cleared-one m.cleared m'.cleared }

  answered-same : {X : Reading} {H H' : Head} {items items' : List Item} {limit n n' c c' : ℕ} {watch : Bool} {L L' : List ℕ} (room : List ℕ) → X ≡ accepted H items → X ≡ accepted H' items'
      → Told H.size H.units (records_of items) limit watch n c L → Told H'.size H'.units (records_of items') limit watch n' c' L'
      → OneCount n 0 c (numbers L ++ drop (length (numbers L)) room) t₁ w₁ n' 0 c' (numbers L' ++ drop (length (numbers L')) room) t₂ w₂
  answered-same {H = H} {items = items} {limit = limit} {n' = n'} {c' = c'} {watch = watch} {L' = L'} room e e' o o' =
      let a = accepted-one e e' in
      let q : Told H.size H.units (records_of items) limit watch n' c' L' = rw (a.0, a.1) o' in
      let d = told-one o q in
      record { number = d.0; place = refl; count = d.1; rooms = ap (λ (l : List ℕ). numbers l ++ drop (length (numbers l)) room) d.2; tables = blanked-one m.blanked m'.blanked; works = cleared-one m.cleared m'.cleared }

pub counted-one : {job room : List ℕ} {records : List Record} {work : List ℕ} {limit : ℕ} {watch : Bool} {n p c n' p' c' : ℕ} {room₁ room₂ : List ℕ} {records₁ records₂ : List Record} {work₁ work₂ : List ℕ}
    → Counted job room records work limit watch n p c room₁ records₁ work₁ → Counted job room records work limit watch n' p' c' room₂ records₂ work₂
    → OneCount n p c room₁ records₁ work₁ n' p' c' room₂ records₂ work₂
counted-one (long h) (long k) = unchanged
counted-one (long h) (narrow k t) = absurd (omega arith)
counted-one (long h) (unread i e m) = absurd (omega (arith, i.short))
counted-one (long h) (cramped i e s m) = absurd (omega (arith, i.short))
counted-one (long h) (answered i e s r m) = absurd (omega (arith, i.short))
counted-one (narrow h t) (long k) = absurd (omega arith)
counted-one (narrow h t) (narrow k u) = unchanged
counted-one (narrow h t) (unread i e m) = absurd (lent-not i t)
counted-one (narrow h t) (cramped i e s m) = absurd (lent-not i t)
counted-one (narrow h t) (answered i e s r m) = absurd (lent-not i t)
counted-one (unread i e m) (long k) = absurd (omega (arith, i.short))
counted-one (unread i e m) (narrow k t) = absurd (lent-not i t)
counted-one (unread i e m) (unread i' e' m') = let a = refused-one e e' in refused-same m m' a.0 a.1
counted-one (unread i e m) (cramped i' e' s' m') = absurd (clash e e')
counted-one (unread i e m) (answered i' e' s' r' m') = absurd (clash e e')
counted-one (cramped i e s m) (long k) = absurd (omega (arith, i.short))
counted-one (cramped i e s m) (narrow k t) = absurd (lent-not i t)
counted-one (cramped i e s m) (unread i' e' m') = absurd (clash e' e)
counted-one (cramped i e s m) (cramped i' e' s' m') = refused-same m m' refl refl
counted-one (cramped i e s m) (answered i' e' s' r' m') = absurd (omega (arith, size-one e e'))
counted-one (answered i e s r m) (long k) = absurd (omega (arith, i.short))
counted-one (answered i e s r m) (narrow k t) = absurd (lent-not i t)
counted-one (answered i e s r m) (unread i' e' m') = absurd (clash e' e)
counted-one (answered i e s r m) (cramped i' e' s' m') = absurd (omega (arith, size-one e e'))
counted-one {room = room} (answered i e s r m) (answered i' e' s' r' m') = answered-same m m' room e e' r r'
