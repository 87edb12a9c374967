-- A sound report is no longer than the room that document 01 calls needed: the numbers of a reason rise within 1 to R, so that they are
-- at most R many, and by the last point of a reason they are at most 2(N-C), which is at most 2(N-1). Its sheets are no more than its numbers.
-- Assumes nothing.
use Prim.Native.Nat.{ℕ, ◌*◌, ◌-◌, ◌≤◌, min}
use native.Mathlib.Omega.{arith}
use mathlib.Core.Path.{◌≡◌, refl, ap, subst}
use mathlib.Core.List.Memᴰ
use mathlib.Core.List.{List, [], ◌∷◌, ◌++◌, Memᴰ}
use lib.ListN.{length, length-append}
use Rattle.meaning.specs.Following.{Rec}
use Rattle.meaning.specs.Reasons.{Above, Reason}
use Rattle.meaning.proofs.Laws.{reason-short}
use Rattle.meaning.proofs.Rising.{rising-short}
use Rattle.job_field.specs.Items.{Matter, Moment, Question, sheet_room, room_for, Item, needed_room}
use Rattle.report.specs.Sheets.{sheet_no, Sheets}
use Rattle.report.specs.Report.{numbers, Reasoned, because, breached, Filed, unfiled, filed, Answers, led, reasoned, apart, intact, parted, joined, Totalled, total, Sound, totals, passed, answered}
use Rattle.report.proofs.Bytes.{length-numbers, length-field}

-- Rising numbers above m and up to R are at most R - m many.
pub rising-few : (m R : ℕ) (L : List ℕ) → Above m L → ((k : ℕ) → Memᴰ k L → k ≤ R) → length L ≤ R - m
rising-few m R [] a h = omega arith
rising-few m R (k ∷ L) a h = omega (arith, h k (Memᴰ.head refl), rising-few k R L a.1 (λ n i. h n (Memᴰ.tail i)))

pub reason-few : {N : ℕ} {rs : List Rec} {R s t : ℕ} {L : List ℕ} → Reason N rs R s t L → length L ≤ min R (2 * (N - 1))
reason-few {N} {rs} {R} {s} {t} {L} r = omega (arith, rising-few 0 R L r.rising r.stand, reason-short r)

-- The sheets of the records of a list, one for each.
abbrev sheets_by : List ℕ → List ℕ → List ℕ
sheets_by all [] = []
sheets_by all (k ∷ L) = sheet_no all k ∷ sheets_by all L

length-by : (all L : List ℕ) → length (sheets_by all L) ≡ length L
length-by all [] = refl
length-by all (k ∷ L) = omega (arith, length-by all L)

member-by : (all L : List ℕ) (k : ℕ) → Memᴰ k L → Memᴰ (sheet_no all k) (sheets_by all L)
member-by all [] k i = absurd (Memᴰ.not-nil i)
member-by all (n ∷ L) k (Memᴰ.head p) = Memᴰ.head (ap (sheet_no all) p)
member-by all (n ∷ L) k (Memᴰ.tail i) = Memᴰ.tail (member-by all L k i)

pub sheets-few : {all L hs : List ℕ} → Sheets all L hs → length hs ≤ length L
sheets-few {all} {L} {hs} s =
    omega (arith, length-by all L, rising-short 0 hs (sheets_by all L) s.rising (λ h i. let e = s.each h i in subst (λ (n : ℕ). Memᴰ n (sheets_by all L)) e.2 (member-by all L e.0 e.1)))

-- They fit where the numbers of the reason do.
pub filed-fits : (M : Matter) (b : Moment) {L g : List ℕ} → length L ≤ min b.records (2 * (M.head.size - 1)) → Filed M L g → length g ≤ sheet_room M.head b
filed-fits M b l (unfiled e) = omega arith
filed-fits M b {L} l (filed {hs = hs} e s) = rw e (omega (arith, length-field 138 (numbers hs), length-numbers hs, sheets-few s))

-- The field of a reason and what stands behind it.
reasoned-fits : {M : Matter} {b : Moment} {q : Question} {L f g : List ℕ} → Reasoned M b q L f → Filed M L g → length (f ++ g) ≤ room_for M.head b q
reasoned-fits {M} {b} (because {L = L} r) s =
    rw length-append (omega (arith, length-field 132 (numbers L), length-numbers L, reason-few r, filed-fits M b (reason-few r) s))
reasoned-fits {M} {b} (breached {k = k} {L = L} e r) s =
    rw length-append (omega (arith, length-field 134 (numbers (k ∷ L)), length-numbers (k ∷ L), reason-few r, filed-fits M b (reason-few r) s))

pub answers-fits : {M : Matter} {b : Moment} {q : Question} {f : List ℕ} → Answers M b q f → length f ≤ room_for M.head b q
answers-fits (led {l = l} {m = m} h k) = omega (arith, length-field 131 (numbers (l ∷ m ∷ [])), length-numbers (l ∷ m ∷ []))
answers-fits (reasoned r s) = reasoned-fits r s
answers-fits (apart h) = omega (arith, length-field 133 [])
answers-fits (intact u) = omega (arith, length-field 135 [])
answers-fits {M} {b} (parted {L = L} h d) = omega (arith, length-field 136 (numbers L), length-numbers L, d.full)
answers-fits (joined h) = omega (arith, length-field 137 [])

pub totalled-length : {M : Matter} {bs : List ℕ} → Totalled M bs → length bs ≡ 7
totalled-length (total {c} {i} h k) = omega (arith, length-field 143 (numbers (c ∷ i ∷ [])), length-numbers (c ∷ i ∷ []))

pub sound-fits : {M : Matter} {b : Moment} {is : List Item} {bs : List ℕ} → Sound M b is bs → length bs ≤ needed_room M.head b is
sound-fits (totals t) = omega (arith, totalled-length t)
sound-fits (passed s) = sound-fits s
sound-fits (answered {f = f} {bs = bs} a s) = rw length-append (omega (arith, answers-fits a, sound-fits s))
