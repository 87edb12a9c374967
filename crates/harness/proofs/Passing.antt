-- Every report that the harness run writes passes the recheck, and two outcomes that meet its recheck's promise on the same lent things are one.
-- The run leaves a sound report, a sound report has no fault, and the first fault of a report is one.
-- Assumes nothing.
use Prim.Native.Nat.{ℕ, suc, ◌≤◌}
use native.Mathlib.Omega.{arith}
use mathlib.Core.Path.{◌≡◌, refl, sym, ◌∙◌}
use mathlib.Core.Bool.{Bool, true, false, cond}
use lib.Dec.{ltb}
use mathlib.Core.List.{List}
use lib.ListN.{length, take}
use lib.Seq.{take_at}
use Rattle.job_field.specs.Items.{Head, matter_of, start, Item, Reading, refused, accepted}
use Rattle.job_field.specs.Reading.{reading}
use Rattle.harness_read.specs.Profile.{harness_reading, Place, none, some, apply_from, both}
use Rattle.harness_read.proofs.Bridge.{harness-reading}
use Rattle.job_field.proofs.Numbers.{refused-some}
use Rattle.records.specs.declared.Record.{Record}
use Rattle.harness_report.specs.Report.{HarnessSound}
use Rattle.harness_report.specs.Fault.{HarnessFault}
use Rattle.harness_report.proofs.Fault.{harness-no-fault, harness-fault-one}
use Rattle.call_look.specs.Lent.{Lent, Emptied}
use Rattle.harness.specs.Run.{HarnessRan}
use Rattle.harness.specs.Run as run
use Rattle.harness.specs.Recheck.{HarnessRechecked, long, narrow, unread, unsound, sound}
use Rattle.haltzurme.proofs.Passing.{OneRecheck}
use Rattle.haltzurme.proofs.One.{blanked-one, cleared-one, lent-not, clash, refused-one, accepted-one}

-- A refusal of the reading has a number of 3 or more.
one_of : (t : Bool) (m q a : ℕ) {n p : ℕ} → 3 ≤ m → cond t (refused m q) (refused 4 a) ≡ refused n p → 3 ≤ n
one_of true m q a {n} l e = let z : m ≡ n = cc in omega arith
one_of false m q a {n} l e = let z : 4 ≡ n = cc in omega arith

both_some : (job : List ℕ) (r : Reading) (x : Place) {n p : ℕ} → reading job ≡ r → both r x ≡ refused n p → 3 ≤ n
both_some job (refused m q) none {n} e f = let z : m ≡ n = cc in omega (arith, refused-some job m q e)
both_some job (refused m q) (some a) e f = one_of (ltb q a) m q a (refused-some job m q e) f
both_some job (accepted H is) none e f = let z : ◌≡◌ {A = ℕ} 0 1 = cc in absurd (omega arith)
both_some job (accepted H is) (some a) {n} e f = let z : 4 ≡ n = cc in omega arith

pub harness-refused-some : (job : List ℕ) (n p : ℕ) → harness_reading job ≡ refused n p → 3 ≤ n
harness-refused-some job n p e = both_some job (reading job) (apply_from (suc (length job)) job 0) refl (sym (harness-reading job) ∙ e)

-- A sound report has no fault, by whichever reading of the job.
no-fault : {H H' : Head} {p : ℕ} {items items' : List Item} {report : List ℕ} → H ≡ H' → items ≡ items' → HarnessSound (matter_of H items) start items report → HarnessFault (matter_of H' items') start items' 0 report p → ⊥
no-fault a b s f = harness-no-fault (rw (a, b) at s) f

-- A report that is sound for a job is rechecked as sound.
sound-passes : {job report : List ℕ} {records records' : List Record} {work work' : List ℕ} {H : Head} {n p : ℕ} {items : List Item} → Lent job records work → harness_reading job ≡ accepted H items
    → HarnessSound (matter_of H items) start items report → HarnessRechecked job report records work n p records' work' → (n ≡ 0) × (p ≡ 0)
sound-passes i e s (long h) = absurd (omega (arith, i.short))
sound-passes i e s (narrow h t) = absurd (lent-not i t)
sound-passes i e s (unread i' e' m) = absurd (clash e' e)
sound-passes i e s (unsound i' e' f m) = let a = accepted-one e e' in absurd (no-fault a.0 a.1 s f)
sound-passes i e s (sound i' e' s' m) = (refl, refl)

pub harness-passes : {job room room' : List ℕ} {records records' : List Record} {work work' : List ℕ} {l : ℕ} → HarnessRan job room records work 0 0 l room' records' work'
    → {records₁ records₂ : List Record} {work₁ work₂ : List ℕ} {n p : ℕ} → Lent job records₁ work₁ → HarnessRechecked job (take l room') records₁ work₁ n p records₂ work₂ → (n ≡ 0) × (p ≡ 0)
harness-passes (run.unread i e m) i' r = absurd (omega (arith, harness-refused-some _ 0 0 e))
harness-passes (run.done {bs = bs} i e h s m) i' r = sound-passes i' e (rw (take_at bs _ (length bs) refl) s) r

emptied-one : {records records₁ records₂ : List Record} {work work₁ work₂ : List ℕ} {n p n' p' : ℕ} → Emptied records work records₁ work₁ → Emptied records work records₂ work₂ → n ≡ n' → p ≡ p'
    → OneRecheck n p n' p' records₁ records₂ work₁ work₂
emptied-one m m' a b = record { number = a; place = b; places = blanked-one m.blanked m'.blanked; numbers = cleared-one m.cleared m'.cleared }

pub harness-recheck-one : {job report : List ℕ} {records records₁ records₂ : List Record} {work work₁ work₂ : List ℕ} {n p n' p' : ℕ}
    → HarnessRechecked job report records work n p records₁ work₁ → HarnessRechecked job report records work n' p' records₂ work₂ → OneRecheck n p n' p' records₁ records₂ work₁ work₂
harness-recheck-one (long h) (long k) = record { number = refl; place = refl; places = refl; numbers = refl }
harness-recheck-one (long h) (narrow k t) = absurd (omega arith)
harness-recheck-one (long h) (unread i e m) = absurd (omega (arith, i.short))
harness-recheck-one (long h) (unsound i e f m) = absurd (omega (arith, i.short))
harness-recheck-one (long h) (sound i e s m) = absurd (omega (arith, i.short))
harness-recheck-one (narrow h t) (long k) = absurd (omega arith)
harness-recheck-one (narrow h t) (narrow k u) = record { number = refl; place = refl; places = refl; numbers = refl }
harness-recheck-one (narrow h t) (unread i e m) = absurd (lent-not i t)
harness-recheck-one (narrow h t) (unsound i e f m) = absurd (lent-not i t)
harness-recheck-one (narrow h t) (sound i e s m) = absurd (lent-not i t)
harness-recheck-one (unread i e m) (long k) = absurd (omega (arith, i.short))
harness-recheck-one (unread i e m) (narrow k t) = absurd (lent-not i t)
harness-recheck-one (unread i e m) (unread i' e' m') = let a = refused-one e e' in emptied-one m m' a.0 a.1
harness-recheck-one (unread i e m) (unsound i' e' f' m') = absurd (clash e e')
harness-recheck-one (unread i e m) (sound i' e' s' m') = absurd (clash e e')
harness-recheck-one (unsound i e f m) (long k) = absurd (omega (arith, i.short))
harness-recheck-one (unsound i e f m) (narrow k t) = absurd (lent-not i t)
harness-recheck-one (unsound i e f m) (unread i' e' m') = absurd (clash e' e)
harness-recheck-one (unsound i e f m) (unsound i' e' f' m') = let a = accepted-one e e' in emptied-one m m' refl (harness-fault-one f (rw (a.0, a.1) f'))
harness-recheck-one (unsound i e f m) (sound i' e' s' m') = let a = accepted-one e' e in absurd (no-fault a.0 a.1 s' f)
harness-recheck-one (sound i e s m) (long k) = absurd (omega (arith, i.short))
harness-recheck-one (sound i e s m) (narrow k t) = absurd (lent-not i t)
harness-recheck-one (sound i e s m) (unread i' e' m') = absurd (clash e' e)
harness-recheck-one (sound i e s m) (unsound i' e' f' m') = let a = accepted-one e e' in absurd (no-fault a.0 a.1 s f')
harness-recheck-one (sound i e s m) (sound i' e' s' m') = emptied-one m m' refl refl
