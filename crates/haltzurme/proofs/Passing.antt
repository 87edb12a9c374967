-- Every report that the run writes passes the recheck, and two outcomes that meet the recheck's promise on the same lent things are one.
-- The run leaves a sound report, a sound report has no fault, and the first fault of a report is one.
-- Assumes nothing.
use Prim.Native.Nat.{ℕ}
use native.Mathlib.Omega.{arith}
use mathlib.Core.Path.{◌≡◌, refl}
use mathlib.Core.List.{List}
use lib.ListN.{length, take}
use lib.Seq.{take_at}
use Rattle.job_field.specs.Items.{Head, matter_of, start, Item, accepted}
use Rattle.job_field.specs.Reading.{reading}
use Rattle.job_field.proofs.Numbers.{refused-some}
use Rattle.records.specs.declared.Record.{Record}
use Rattle.report.specs.Report.{Sound}
use Rattle.report.specs.Fault.{FaultAt}
use Rattle.report.proofs.Fault.{sound-no-fault, one-fault}
use Rattle.call_look.specs.Lent.{Lent, Emptied}
use Rattle.haltzurme.specs.Run.{Ran}
use Rattle.haltzurme.specs.Run as run
use Rattle.haltzurme.specs.Recheck.{Rechecked, long, narrow, unread, unsound, sound}
use Rattle.haltzurme.proofs.One.{blanked-one, cleared-one, lent-not, clash, refused-one, accepted-one}

-- A sound report has no fault, by whichever reading of the job.
no-fault : {H H' : Head} {p : ℕ} {items items' : List Item} {report : List ℕ} → H ≡ H' → items ≡ items' → Sound (matter_of H items) start items report → FaultAt (matter_of H' items') start items' 0 report p → ⊥
no-fault a b s f = sound-no-fault (rw (a, b) at s) f

-- A report that is sound for a job is rechecked as sound.
sound-passes : {job report : List ℕ} {records records' : List Record} {work work' : List ℕ} {H : Head} {n p : ℕ} {items : List Item} → Lent job records work → reading job ≡ accepted H items
    → Sound (matter_of H items) start items report → Rechecked job report records work n p records' work' → (n ≡ 0) × (p ≡ 0)
sound-passes i e s (long h) = absurd (omega (arith, i.short))
sound-passes i e s (narrow h t) = absurd (lent-not i t)
sound-passes i e s (unread i' e' m) = absurd (clash e' e)
sound-passes i e s (unsound i' e' f m) = let a = accepted-one e e' in absurd (no-fault a.0 a.1 s f)
sound-passes i e s (sound i' e' s' m) = (refl, refl)

pub passes : {job room room' : List ℕ} {records records' : List Record} {work work' : List ℕ} {l : ℕ} → Ran job room records work 0 0 l room' records' work'
    → {records₁ records₂ : List Record} {work₁ work₂ : List ℕ} {n p : ℕ} → Lent job records₁ work₁ → Rechecked job (take l room') records₁ work₁ n p records₂ work₂ → (n ≡ 0) × (p ≡ 0)
passes (run.unread i e m) i' r = absurd (omega (arith, refused-some _ 0 0 e))
passes (run.done {bs = bs} i e h s m) i' r = sound-passes i' e (rw (take_at bs _ (length bs) refl) s) r

-- Two rechecks of the same job and report with the same tables.
pub record OneRecheck (n p n' p' : ℕ) (records records' : List Record) (work work' : List ℕ) : Type 0 where
  pub number : n ≡ n'
  pub place : p ≡ p'
  pub places : records ≡ records'
  pub numbers : work ≡ work'

emptied-one : {records records₁ records₂ : List Record} {work work₁ work₂ : List ℕ} {n p n' p' : ℕ} → Emptied records work records₁ work₁ → Emptied records work records₂ work₂ → n ≡ n' → p ≡ p'
    → OneRecheck n p n' p' records₁ records₂ work₁ work₂
emptied-one m m' a b = record { number = a; place = b; places = blanked-one m.blanked m'.blanked; numbers = cleared-one m.cleared m'.cleared }

pub recheck-one : {job report : List ℕ} {records records₁ records₂ : List Record} {work work₁ work₂ : List ℕ} {n p n' p' : ℕ}
    → Rechecked job report records work n p records₁ work₁ → Rechecked job report records work n' p' records₂ work₂ → OneRecheck n p n' p' records₁ records₂ work₁ work₂
recheck-one (long h) (long k) = record { number = refl; place = refl; places = refl; numbers = refl }
recheck-one (long h) (narrow k t) = absurd (omega arith)
recheck-one (long h) (unread i e m) = absurd (omega (arith, i.short))
recheck-one (long h) (unsound i e f m) = absurd (omega (arith, i.short))
recheck-one (long h) (sound i e s m) = absurd (omega (arith, i.short))
recheck-one (narrow h t) (long k) = absurd (omega arith)
recheck-one (narrow h t) (narrow k u) = record { number = refl; place = refl; places = refl; numbers = refl }
recheck-one (narrow h t) (unread i e m) = absurd (lent-not i t)
recheck-one (narrow h t) (unsound i e f m) = absurd (lent-not i t)
recheck-one (narrow h t) (sound i e s m) = absurd (lent-not i t)
recheck-one (unread i e m) (long k) = absurd (omega (arith, i.short))
recheck-one (unread i e m) (narrow k t) = absurd (lent-not i t)
recheck-one (unread i e m) (unread i' e' m') = let a = refused-one e e' in emptied-one m m' a.0 a.1
recheck-one (unread i e m) (unsound i' e' f' m') = absurd (clash e e')
recheck-one (unread i e m) (sound i' e' s' m') = absurd (clash e e')
recheck-one (unsound i e f m) (long k) = absurd (omega (arith, i.short))
recheck-one (unsound i e f m) (narrow k t) = absurd (lent-not i t)
recheck-one (unsound i e f m) (unread i' e' m') = absurd (clash e' e)
recheck-one (unsound i e f m) (unsound i' e' f' m') = let a = accepted-one e e' in emptied-one m m' refl (one-fault f (rw (a.0, a.1) f'))
recheck-one (unsound i e f m) (sound i' e' s' m') = let a = accepted-one e' e in absurd (no-fault a.0 a.1 s' f)
recheck-one (sound i e s m) (long k) = absurd (omega (arith, i.short))
recheck-one (sound i e s m) (narrow k t) = absurd (lent-not i t)
recheck-one (sound i e s m) (unread i' e' m') = absurd (clash e' e)
recheck-one (sound i e s m) (unsound i' e' f' m') = let a = accepted-one e e' in absurd (no-fault a.0 a.1 s f')
recheck-one (sound i e s m) (sound i' e' s' m') = emptied-one m m' refl refl
