-- What the run answers and what is told of it are true of the job: the run's promise has a case for each refusal, and the report that it leaves is sound.
-- Assumes nothing.
use Prim.Native.Nat.{ℕ, ◌<◌}
use native.Mathlib.Omega.{arith}
use mathlib.Core.Path.{◌≡◌, refl, sym, subst}
use mathlib.Core.Logic.{◌⊎◌, inl, inr}
use mathlib.Core.Bool.{Bool, true, false, cond}
use mathlib.Core.List.{List, ◌++◌}
use lib.Dec.{eqb}
use lib.ListN.{length, take, drop, replicate, length-replicate}
use lib.Seq.{take_at}
use Rattle.meaning.specs.Limits.{named_numbers, named_places}
use Rattle.job_field.specs.Items.{Head, Item, start, matter_of, refused, accepted}
use Rattle.job_field.specs.Reading.{reading}
use Rattle.records.specs.declared.Record.{Record}
use Rattle.haltzurme_own.specs.Own.{filled}
use Rattle.haltzurme.specs.Run.{Ran}
use Rattle.haltzurme.specs.Run as run
use Rattle.haltzurme_own.specs.Plain.{RanOver}
use Rattle.text.specs.Lines.{lines_of, refusal_line, text_of}
use Rattle.text.specs.Told.{Accepted}
use Rattle.std.specs.Prelude.{Option}
use Rattle.text.specs.Answered.{answer_text, Answered}
use Rattle.job_field.proofs.Numbers.{refused-some}
use Rattle.saying.specs.Says.{long, narrow, unread, cramped, Says, answers, refuses, True}
use Rattle.saying.specs.Meant.{Meant}
use Rattle.saying.proofs.Meant.{sound-meant}

-- Where reading refuses the job, the text is the line of the refusal, whatever the number.
unread-text : (job report : List ℕ) (n p : ℕ) → reading job ≡ refused n p → text_of (reading job) report ≡ refusal_line n p
unread-text job report n p e = rw e

either : {x y : List ℕ} (c : Bool) → x ≡ y → cond c x y ≡ y
either true e = e
either false e = refl

-- The record table that calls lends is long enough.
enough : {A : Type 0} (k : ℕ) (each : A) → length (replicate k each) < k → ⊥
enough {A} k each h = omega (arith, length-replicate {A = A} k each)

narrow-work : (each : Record) (work : List ℕ) → (length (filled each) < named_places) ⊎ (length work < named_numbers) → length work < named_numbers
narrow-work each work (inl h) = absurd (enough 4000 each h)
narrow-work each work (inr h) = h

-- An accepted job's report stands at the front of what the room holds then.
done-text : (job bs rest : List ℕ) (H : Head) (items : List Item) → reading job ≡ accepted H items → text_of (reading job) (take (length bs) (bs ++ rest)) ≡ lines_of H.sheeted items bs
done-text job bs rest H items e = rw (e, take_at bs rest (length bs) refl)

module _ {each : Record} {job room work : List ℕ} where
  ran_says : {n p l : ℕ} {room' work' : List ℕ} {records' : List Record} → Ran job room (filled each) work n p l room' records' work' → Says job (length room) (length work) (answer_text job room' n p l)
  unfolding answer_text refusal_line
  ran_says (run.long h) = refuses (long h)
  ran_says (run.narrow h t) = refuses (narrow h (narrow-work each work t))
  ran_says (run.unread {n} {p} i e m) =
      subst (Says job (length room) (length work)) (sym (either (eqb n 0) (unread-text job (take 0 room) n p e))) (refuses (unread i.short i.numbers e))
  ran_says (run.cramped i e s m) = refuses (cramped i.short i.numbers e s)
  ran_says (run.done {H} {items} {bs} i e s r m) =
      answers i.short i.numbers e s (subst (Meant (matter_of H items) start items) (sym (done-text job bs (drop (length bs) room) H items e)) (sound-meant r))

  ran-accepted : {n p l : ℕ} {room' work' : List ℕ} {records' : List Record} → Ran job room (filled each) work n p l room' records' work' → n ≡ 0 → Accepted job
  ran-accepted (run.long h) z = absurd (omega arith)
  ran-accepted (run.narrow h t) z = absurd (omega arith)
  ran-accepted (run.unread {n} {p} i e m) z = absurd (omega (arith, refused-some job n p e))
  ran-accepted (run.cramped i e s m) z = absurd (omega arith)
  ran-accepted (run.done {H} {items} i e s r m) z = record { head = H; items = items; reads = e }

  pub ran-true : {n p l : ℕ} {room' work' out out' : List ℕ} {told : Option ℕ} → RanOver each job room work n p l room' work' → Answered job room' n p l out out' told → True job room work out out' told
  ran-true {n} {p} {l} {room'} r a = record {
    text = answer_text job room' n p l;
    says = ran_says r.ran;
    tells = a.tells;
    fits = λ h k. a.fits (ran-accepted r.ran) (omega (arith, r.room_kept)) k;
  }
