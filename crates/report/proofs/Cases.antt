-- The definitions of a sound report and of its first fault on a small job, byte by byte: three tags, the record 1 = 2, then the ask of 0 and 2. Its leaders
-- are 0 and 1, the second by the record before the question; in the end there are two classes and no idle record. A byte behind the totals is at fault where
-- it stands. Assumes nothing.
use Prim.Native.Nat.{ℕ}
use mathlib.Core.Bool.{Bool, true, false}
use mathlib.Core.List.{List, [], ◌∷◌, ◌++◌}
use lib.Dec.{T}
use Rattle.meaning.specs.Following.{eq}
use Rattle.meaning.specs.Cases.{Claim, leader, classes, idle, Says}
use Rattle.meaning.proofs.Cases.{dec_says}
use Rattle.job_field.specs.Items.{Matter, matter_of, start, after, line, Item, noted, posed, ask}
use Rattle.report.specs.Report.{two, numbers, front, field, Answers, led, Totalled, total, Sound, totals, passed, answered}
use Rattle.report.specs.Fault.{FaultAt, past, behind, spare}

abbrev items : List Item
items = noted (line (eq 1 2) 0) ∷ posed (ask 0 2) ∷ []

abbrev matter : Matter
matter = matter_of (record { size = 3; units = 3; sheeted = false }) items

-- 83 0004 0000 0001, 8F 0004 0002 0000
abbrev bytes : List ℕ
bytes = 131 ∷ 0 ∷ 4 ∷ 0 ∷ 0 ∷ 0 ∷ 1 ∷ 143 ∷ 0 ∷ 4 ∷ 0 ∷ 2 ∷ 0 ∷ 0 ∷ []

abbrev yesb : {A : Type 0} → Dec A → Bool
yesb (yes a) = true
yesb (no a) = false

said : {A : Type 0} (d : Dec A) → T (yesb d) → A
said (yes a) t = a
said (no a) t = absurd t

-- A claim about the record, at the question behind it, is decided by the closure on paper.
so : (c : Claim) → T (yesb (dec_says 3 matter.records 1 c)) → Says 3 matter.records 1 c
so c = said (dec_says 3 matter.records 1 c)

led-right : Answers matter (after (noted (line (eq 1 2) 0)) start) (ask 0 2) (field 131 (numbers (0 ∷ 1 ∷ [])))
unfolding dec_says
led-right = led (so (leader 0 0) tt) (so (leader 2 1) tt)

totals-right : Totalled matter (field 143 (numbers (2 ∷ 0 ∷ [])))
unfolding dec_says
totals-right = total (so (classes 2) tt) (so (idle 0) tt)

pub small-sound : Sound matter start items bytes
unfolding field front numbers two
small-sound = passed (answered led-right (totals totals-right))

pub small-spare : FaultAt matter start items 0 (bytes ++ (7 ∷ [])) 14
unfolding field front numbers two
small-spare = past (behind led-right (spare totals-right 7 []))
