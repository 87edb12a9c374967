-- A text that fits is told whole, and every text of a report of 60,000 bytes fits 214,014.
-- Assumes nothing.
use Prim.Native.Nat.{ℕ, ◌≤◌, ◌<◌}
use native.Mathlib.Omega.{arith}
use mathlib.Core.Path.{◌≡◌, ap}
use mathlib.Core.List.{List}
use borrow.Author.Tests.{eq-eqb, ne_eqb}
use lib.ListN.{length, take, length-take}
use Rattle.job_field.specs.Reading.{reading}
use Rattle.text.specs.Lines.{text_of, lines_of, refusal_line}
use Rattle.text.specs.Told.{Tells, whole, full}
use Rattle.std.specs.Prelude.{Option, Some}
use Rattle.text.proofs.Putting.{tells_as}
use Rattle.text.proofs.Size.{Bytes, bytes_take, report-size, refusal-size}
use Rattle.text.specs.Answered.{answer_text, Answered}

tells-whole : {text out out' : List ℕ} {told : Option ℕ} → Tells text out out' told → length text ≤ length out → told ≡ Some (length text)
tells-whole (whole n e) h = ap Some n
tells-whole (full l e) h = absurd (omega arith)

module _ (job room : List ℕ) (number place size : ℕ) where
  text-report : number ≡ 0 → text_of (reading job) (take size room) ≡ answer_text job room number place size
  unfolding answer_text
  text-report e = rw (eq-eqb number 0 e)

  text-refusal : (number ≡ 0 → ⊥) → refusal_line number place ≡ answer_text job room number place size
  unfolding answer_text
  text-refusal e = rw (ne_eqb number 0 e)

  pub answered-report : {out out' : List ℕ} {told : Option ℕ} → number ≡ 0 → Bytes room → Tells (text_of (reading job) (take size room)) out out' told → Answered job room number place size out out' told
  answered-report e b t = record {
    tells = tells_as (text-report e) t;
    fits = λ fair h k.
        let a = fair e in
        let short : length (take size room) ≤ 60000 = rw (length-take size room) (omega arith) in
        let is : text_of (reading job) (take size room) ≡ lines_of a.head.sheeted a.items (take size room) = rw a.reads in
        let most = report-size job a.head a.items a.reads (take size room) (bytes_take size room b) short in
        tells-whole (tells_as (text-report e) t) (omega (arith, most, ap length is, ap length (text-report e)));
  }

  pub answered-refusal : {out out' : List ℕ} {told : Option ℕ} → (number ≡ 0 → ⊥) → number < 256 → place < 18446744073709551616 → Tells (refusal_line number place) out out' told → Answered job room number place size out out' told
  answered-refusal e n p t = record {
    tells = tells_as (text-refusal e) t;
    fits = λ fair h k. tells-whole (tells_as (text-refusal e) t) (omega (arith, refusal-size number place n p, ap length (text-refusal e)));
  }
