-- What the harness run answers and what is told of it are true of the sheet: the run's promise has a case for each refusal, and the report that it leaves is sound.
-- Assumes nothing.
use Prim.Native.Nat.{ℕ, ◌≤◌, ◌<◌}
use native.Mathlib.Omega.{arith}
use mathlib.Core.Path.{◌≡◌, refl, sym, subst}
use mathlib.Core.Logic.{◌⊎◌, inl, inr}
use mathlib.Core.Bool.{cond}
use mathlib.Core.List.{List, ◌++◌}
use lib.Dec.{eqb}
use lib.ListN.{length, take, drop, replicate, length-replicate}
use lib.Seq.{take_at}
use borrow.Author.Tests.{ne_eqb}
use Rattle.meaning.specs.Limits.{named_numbers, named_places}
use Rattle.job_field.specs.Items.{Head, Item, accepted}
use Rattle.job_field.specs.Reading.{reading}
use Rattle.records.specs.declared.Record.{Record}
use Rattle.records.specs.Table.{blank}
use Rattle.haltzurme_own.specs.Own.{filled}
use Rattle.harness_read.proofs.Bridge.{harness-accepted}
use Rattle.harness.specs.Run.{HarnessRan}
use Rattle.harness.specs.Run as run
use Rattle.harness.proofs.Passing.{harness-refused-some}
use Rattle.harness_own.specs.Own.{HarnessRanAlone}
use Rattle.text.specs.Lines.{lines_of, refusal_line, text_of}
use Rattle.text.specs.Told.{Accepted}
use Rattle.std.specs.Prelude.{Option}
use Rattle.text.specs.Answered.{answer_text, Answered}
use Rattle.harness_saying.specs.Says.{long, narrow, unread, cramped, HarnessSays, answers, refuses, HarnessTrue}

-- What is told where the number is not 0.
refusal-text : (job report : List ℕ) (n p : ℕ) → 3 ≤ n → cond (eqb n 0) (text_of (reading job) report) (refusal_line n p) ≡ refusal_line n p
refusal-text job report n p l = rw (ne_eqb n 0 (λ e. omega arith)) refl

-- The record table that calls lends is long enough.
enough : {A : Type 0} (k : ℕ) (each : A) → length (replicate k each) < k → ⊥
enough {A} k each h = omega (arith, length-replicate {A = A} k each)

narrow-work : (each : Record) (work : List ℕ) → (length (filled each) < named_places) ⊎ (length work < named_numbers) → length work < named_numbers
narrow-work each work (inl h) = absurd (enough 4000 each h)
narrow-work each work (inr h) = h

-- An accepted job's report stands at the front of what the room holds then.
done-text : (job bs rest : List ℕ) (H : Head) (items : List Item) → reading job ≡ accepted H items → text_of (reading job) (take (length bs) (bs ++ rest)) ≡ lines_of H.sheeted items bs
done-text job bs rest H items e = rw (e, take_at bs rest (length bs) refl)

module _ {job room work : List ℕ} where
  ran_says : {n p l : ℕ} {room' work' : List ℕ} {records' : List Record} → HarnessRan job room (filled blank) work n p l room' records' work' → HarnessSays job (length room) (length work) (answer_text job room' n p l)
  unfolding answer_text refusal_line
  ran_says (run.long h) = refuses (long h)
  ran_says (run.narrow h t) = refuses (narrow h (narrow-work blank work t))
  ran_says (run.unread {n} {p} i e m) =
      subst (HarnessSays job (length room) (length work)) (sym (refusal-text job (take 0 room) n p (harness-refused-some job n p e))) (refuses (unread i.short i.numbers e))
  ran_says (run.cramped i e s m) = refuses (cramped i.short i.numbers e s)
  ran_says (run.done {H} {items} {bs} i e s r m) =
      subst (HarnessSays job (length room) (length work)) (sym (done-text job bs (drop (length bs) room) H items ((harness-accepted job H items).0 e).0)) (answers i.short i.numbers e s r)

  ran-accepted : {n p l : ℕ} {room' work' : List ℕ} {records' : List Record} → HarnessRan job room (filled blank) work n p l room' records' work' → n ≡ 0 → Accepted job
  ran-accepted (run.long h) z = absurd (omega arith)
  ran-accepted (run.narrow h t) z = absurd (omega arith)
  ran-accepted (run.unread {n} {p} i e m) z = absurd (omega (arith, harness-refused-some job n p e))
  ran-accepted (run.cramped i e s m) z = absurd (omega arith)
  ran-accepted (run.done {H} {items} i e s r m) z = record { head = H; items = items; reads = ((harness-accepted job H items).0 e).0 }

  pub ran-true : {n p l : ℕ} {room' work' out out' : List ℕ} {told : Option ℕ} → HarnessRanAlone job room work n p l room' work' → Answered job room' n p l out out' told → HarnessTrue job room work out out' told
  ran-true {n} {p} {l} {room'} r a = record {
    text = answer_text job room' n p l;
    says = ran_says r.ran;
    tells = a.tells;
    fits = λ h k. a.fits (ran-accepted r.ran) (omega (arith, r.room_kept)) k;
  }
