-- A sound report of the harness profile is no longer than the room that document 01 calls needed: the numbers of its reasons rise within 1 to R, and they are at most 2(N-C).
-- Assumes nothing.
use Prim.Native.Nat.{ℕ, ◌*◌, ◌-◌, ◌≤◌, ◌<◌, min}
use native.Mathlib.Omega.{arith}
use native.Mathlib.Decide.{dec_lt}
use mathlib.Core.List.{List, [], ◌∷◌, ◌++◌}
use lib.ListN.{length, length-append}
use Rattle.meaning.specs.Following.{Rec, UpTo}
use Rattle.meaning.specs.Totals.{Classes}
use Rattle.meaning.proofs.Decide.{count_classes}
use Rattle.meaning.proofs.Laws.{classes-some}
use Rattle.job_field.specs.Items.{Matter, Moment, Question, room_for, Item, needed_room}
use Rattle.report.specs.Report.{numbers, Filed}
use Rattle.report.proofs.Bytes.{length-numbers, length-field}
use Rattle.report.proofs.Fits.{rising-few, filed-fits, answers-fits, totalled-length}
use Rattle.harness_meaning.specs.Harness.{Harness}
use Rattle.harness_report.specs.Report.{HarnessReasoned, because, breached, HarnessAnswers, asked, reasoned, apart, intact, doubted, HarnessSound, totals, passed, answered}

harness-short : {N : ℕ} {rs : List Rec} {R s t : ℕ} {L : List ℕ} → Harness N rs R s t L → length L ≤ 2 * (N - 1)
harness-short {N} {rs} {R} h = let c = count_classes N rs R in go (dec_lt 0 N) (h.short c.0 c.1) c.1
  where
    go : {m n : ℕ} → Dec (0 < N) → m ≤ 2 * (N - n) → Classes N (UpTo rs R) n → m ≤ 2 * (N - 1)
    go (yes l) k c = omega (arith, k, classes-some l c)
    go (no l) k c = omega (arith, k)

pub harness-few : {N : ℕ} {rs : List Rec} {R s t : ℕ} {L : List ℕ} → Harness N rs R s t L → length L ≤ min R (2 * (N - 1))
harness-few {N} {rs} {R} {s} {t} {L} r = omega (arith, rising-few 0 R L r.rising r.stand, harness-short r)

-- The field of a reason and what stands behind it.
harness-reasoned-fits : {M : Matter} {b : Moment} {q : Question} {L f g : List ℕ} → HarnessReasoned M b q L f → Filed M L g → length (f ++ g) ≤ room_for M.head b q
harness-reasoned-fits {M} {b} (because {L = L} r) s =
    rw length-append (omega (arith, length-field 132 (numbers L), length-numbers L, harness-few r, filed-fits M b (harness-few r) s))
harness-reasoned-fits {M} {b} (breached {k = k} {L = L} e r) s =
    rw length-append (omega (arith, length-field 134 (numbers (k ∷ L)), length-numbers (k ∷ L), harness-few r, filed-fits M b (harness-few r) s))

pub harness-answers-fits : {M : Matter} {b : Moment} {q : Question} {f : List ℕ} → HarnessAnswers M b q f → length f ≤ room_for M.head b q
harness-answers-fits (asked a) = answers-fits a
harness-answers-fits (reasoned r s) = harness-reasoned-fits r s
harness-answers-fits (apart h) = omega (arith, length-field 133 [])
harness-answers-fits (intact u) = omega (arith, length-field 135 [])
harness-answers-fits (doubted a) = answers-fits a

pub harness-sound-fits : {M : Matter} {b : Moment} {is : List Item} {bs : List ℕ} → HarnessSound M b is bs → length bs ≤ needed_room M.head b is
harness-sound-fits (totals t) = omega (arith, totalled-length t)
harness-sound-fits (passed s) = harness-sound-fits s
harness-sound-fits (answered {f = f} {bs = bs} a s) = rw length-append (omega (arith, harness-answers-fits a, harness-sound-fits s))
