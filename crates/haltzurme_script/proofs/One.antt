-- Two outcomes that meet the call's promise on the same lent things are one: reading is a function, the cases exclude each other, and a table of a length whose places are all
-- told is one. Assumes nothing.
use Prim.Native.Nat.{ℕ, ◌≤◌}
use native.Mathlib.Omega.{arith}
use mathlib.Core.Path.{◌≡◌, refl, ap}
use mathlib.Core.Logic.{inl, inr}
use mathlib.Core.Bool.{Bool}
use mathlib.Core.List.{List, ◌++◌}
use lib.ListN.{length, drop}
use Rattle.meaning.specs.Limits.{named_places}
use Rattle.records.specs.declared.Record.{Record}
use Rattle.haltzurme.proofs.One.{cleared-one, blanked-one}
use Rattle.script_terms.specs.Terms.{Command}
use Rattle.script_meaning.specs.Reading.{Got, fault, got}
use Rattle.script_meaning.specs.Bytes.{job_of}
use Rattle.script_call.specs.Translating.{Converted, unread, done, Enough, Narrow}
use Rattle.haltzurme_script.specs.Translated.{Translated, long, narrow, read}

-- Every part of two outcomes is one.
pub record Same (b : Bool) (n p l : ℕ) (room : List ℕ) (records : List Record) (work : List ℕ) (b' : Bool) (n' p' l' : ℕ) (room' : List ℕ) (records' : List Record) (work' : List ℕ) : Type 0 where
  pub lent : b ≡ b'
  pub number : n ≡ n'
  pub place : p ≡ p'
  pub size : l ≡ l'
  pub bytes : room ≡ room'
  pub places : records ≡ records'
  pub numbers : work ≡ work'

record SameJob (n p l : ℕ) (room : List ℕ) (n' p' l' : ℕ) (room' : List ℕ) : Type 0 where
  number : n ≡ n'
  place : p ≡ p'
  size : l ≡ l'
  bytes : room ≡ room'

clash : {X : Got (List Command)} {n p : ℕ} {cs : List Command} → X ≡ fault n p → X ≡ got cs → ⊥
clash e f = let z : ◌≡◌ {A = ℕ} 0 1 = cc in omega arith

fault-one : {X : Got (List Command)} {n p n' p' : ℕ} → X ≡ fault n p → X ≡ fault n' p' → (n ≡ n') × (p ≡ p')
fault-one e f = (cc, cc)

got-one : {X : Got (List Command)} {cs cs' : List Command} → X ≡ got cs → X ≡ got cs' → cs ≡ cs'
got-one e f = cc

converted-one : {script room : List ℕ} {n p l n' p' l' : ℕ} {room₁ room₂ : List ℕ} → Converted script room n p l room₁ → Converted script room n' p' l' room₂ → SameJob n p l room₁ n' p' l' room₂
converted-one (unread h e) (unread k f) = let z = fault-one e f in record { number = z.0; place = z.1; size = refl; bytes = refl }
converted-one (unread h e) (done f) = absurd (clash e f)
converted-one (done e) (unread k f) = absurd (clash f e)
converted-one {room = room} (done e) (done f) =
    let z = got-one e f in
    record { number = refl; place = refl; size = ap (λ cs. length (job_of cs)) z; bytes = ap (λ cs. job_of cs ++ drop (length (job_of cs)) room) z }

-- What is long enough is not short.
enough-not : {script room work : List ℕ} {places : ℕ} → Enough script room work → named_places ≤ places → Narrow room places work → ⊥
enough-not E h (inl x) = omega (arith, E.long)
enough-not E h (inr (inl x)) = omega arith
enough-not E h (inr (inr x)) = omega (arith, E.numbers)

pub translate-one : {script room : List ℕ} {records : List Record} {work : List ℕ} {b b' : Bool} {n p l n' p' l' : ℕ} {room₁ room₂ : List ℕ} {records₁ records₂ : List Record} {work₁ work₂ : List ℕ}
    → Translated script room records work b n p l room₁ records₁ work₁ → Translated script room records work b' n' p' l' room₂ records₂ work₂ → Same b n p l room₁ records₁ work₁ b' n' p' l' room₂ records₂ work₂
translate-one (long h) (long k) = record { lent = refl; number = refl; place = refl; size = refl; bytes = refl; places = refl; numbers = refl }
translate-one (long h) (narrow k x) = absurd (omega arith)
translate-one (long h) (read E k c m) = absurd (omega (arith, E.short))
translate-one (narrow h x) (long k) = absurd (omega arith)
translate-one (narrow h x) (narrow k y) = record { lent = refl; number = refl; place = refl; size = refl; bytes = refl; places = refl; numbers = refl }
translate-one (narrow h x) (read E k c m) = absurd (enough-not E k x)
translate-one (read E h c m) (long k) = absurd (omega (arith, E.short))
translate-one (read E h c m) (narrow k x) = absurd (enough-not E h x)
translate-one (read E h c m) (read E' k c' m') =
    let z = converted-one c c' in
    record { lent = refl; number = z.number; place = z.place; size = z.size; bytes = z.bytes; places = blanked-one m.blanked m'.blanked; numbers = cleared-one m.cleared m'.cleared }
