-- Two outcomes that meet the promise of the harness run on the same lent things are one, to the last byte of the report: reading is a function, the cases exclude each other, a
-- plain harness sheet has one sound report, and a table of a length whose places are all told is one. There is no exception for reasons here. Assumes nothing.
use Prim.Native.Nat.{ℕ}
use native.Mathlib.Omega.{arith}
use mathlib.Core.Path.{◌≡◌, refl, ap, ap₂}
use mathlib.Core.List.{List, ◌++◌}
use lib.ListN.{length, drop}
use Rattle.job_field.specs.Items.{Head, matter_of, start, Item, Reading, accepted, needed_room}
use Rattle.records.specs.declared.Record.{Record}
use Rattle.haltzurme.proofs.One.{cleared-one, blanked-one, lent-not, clash, refused-one, accepted-one}
use Rattle.harness_report.specs.Report.{HarnessSound}
use Rattle.harness_report.proofs.One.{harness-sound-one}
use Rattle.harness.specs.Run.{HarnessRan, long, narrow, unread, cramped, done}

-- Number, place, length, room and both tables are one.
pub record OneRun (n p l : ℕ) (room : List ℕ) (records : List Record) (work : List ℕ) (n' p' l' : ℕ) (room' : List ℕ) (records' : List Record) (work' : List ℕ) : Type 0 where
  pub number : n ≡ n'
  pub place : p ≡ p'
  pub size : l ≡ l'
  pub bytes : room ≡ room'
  pub places : records ≡ records'
  pub numbers : work ≡ work'

all_one : {n p l n' p' : ℕ} {room : List ℕ} {records records' : List Record} {work work' : List ℕ} → n ≡ n' → p ≡ p' → records ≡ records' → work ≡ work' → OneRun n p l room records work n' p' l room records' work'
all_one a b r w = record { number = a; place = b; size = refl; bytes = refl; places = r; numbers = w }

done-one : (room : List ℕ) {records records' : List Record} {work work' : List ℕ} {H H' : Head} {items items' : List Item} {bs bs' : List ℕ} → H ≡ H' → items ≡ items' → records ≡ records' → work ≡ work'
    → HarnessSound (matter_of H items) start items bs → HarnessSound (matter_of H' items') start items' bs'
    → OneRun 0 0 (length bs) (bs ++ drop (length bs) room) records work 0 0 (length bs') (bs' ++ drop (length bs') room) records' work'
done-one room {bs = bs} {bs' = bs'} a b r w s s' =
    let e : bs ≡ bs' = harness-sound-one (rw (a, b) at s) s' in
    record { number = refl; place = refl; size = ap length e; bytes = ap (λ (x : List ℕ). x ++ drop (length x) room) e; places = r; numbers = w }

-- Both need the same room.
room-one : {X : Reading} {H H' : Head} {items items' : List Item} → X ≡ accepted H items → X ≡ accepted H' items' → needed_room H start items ≡ needed_room H' start items'
room-one e f = let a = accepted-one e f in ap₂ (λ (x : Head) (is : List Item). needed_room x start is) a.0 a.1

pub harness-run-one : {job room : List ℕ} {records : List Record} {work : List ℕ} {n p l n' p' l' : ℕ} {room₁ room₂ : List ℕ} {records₁ records₂ : List Record} {work₁ work₂ : List ℕ}
    → HarnessRan job room records work n p l room₁ records₁ work₁ → HarnessRan job room records work n' p' l' room₂ records₂ work₂
    → OneRun n p l room₁ records₁ work₁ n' p' l' room₂ records₂ work₂
harness-run-one (long h) (long k) = all_one refl refl refl refl
harness-run-one (long h) (narrow k t) = absurd (omega arith)
harness-run-one (long h) (unread i e m) = absurd (omega (arith, i.short))
harness-run-one (long h) (cramped i e s m) = absurd (omega (arith, i.short))
harness-run-one (long h) (done i e s r m) = absurd (omega (arith, i.short))
harness-run-one (narrow h t) (long k) = absurd (omega arith)
harness-run-one (narrow h t) (narrow k u) = all_one refl refl refl refl
harness-run-one (narrow h t) (unread i e m) = absurd (lent-not i t)
harness-run-one (narrow h t) (cramped i e s m) = absurd (lent-not i t)
harness-run-one (narrow h t) (done i e s r m) = absurd (lent-not i t)
harness-run-one (unread i e m) (long k) = absurd (omega (arith, i.short))
harness-run-one (unread i e m) (narrow k t) = absurd (lent-not i t)
harness-run-one (unread i e m) (unread i' e' m') =
    let a = refused-one e e' in
    all_one a.0 a.1 (blanked-one m.blanked m'.blanked) (cleared-one m.cleared m'.cleared)
harness-run-one (unread i e m) (cramped i' e' s' m') = absurd (clash e e')
harness-run-one (unread i e m) (done i' e' s' r' m') = absurd (clash e e')
harness-run-one (cramped i e s m) (long k) = absurd (omega (arith, i.short))
harness-run-one (cramped i e s m) (narrow k t) = absurd (lent-not i t)
harness-run-one (cramped i e s m) (unread i' e' m') = absurd (clash e' e)
harness-run-one (cramped i e s m) (cramped i' e' s' m') = all_one refl refl (blanked-one m.blanked m'.blanked) (cleared-one m.cleared m'.cleared)
harness-run-one (cramped i e s m) (done i' e' s' r' m') = absurd (omega (arith, room-one e e'))
harness-run-one (done i e s r m) (long k) = absurd (omega (arith, i.short))
harness-run-one (done i e s r m) (narrow k t) = absurd (lent-not i t)
harness-run-one (done i e s r m) (unread i' e' m') = absurd (clash e' e)
harness-run-one (done i e s r m) (cramped i' e' s' m') = absurd (omega (arith, room-one e e'))
harness-run-one {room = room} (done i e s r m) (done i' e' s' r' m') =
    let a = accepted-one e e' in
    done-one room a.0 a.1 (blanked-one m.blanked m'.blanked) (cleared-one m.cleared m'.cleared) r r'
