-- Document 01, "What is lent, and each refusal", number 10: the first byte of the first report field at fault. What a right field
-- is, the recheck takes from Report, as the run does.
-- Assumes nothing.
use Rattle.std.specs.Prelude.{ℕ, ◌+◌, List, [], ◌∷◌, ◌++◌, length}
use Rattle.job_field.specs.Items.{Matter, Note, Moment, after, Question, Item, noted, posed}
use Rattle.report.specs.Report.{Reasoned, Filed, Answers, Totalled}

-- A field that P calls right stands at the front of the bytes.
pub data Stands (P : List ℕ → Type 0) : List ℕ → Type 0 where
  stands : {f : List ℕ} → P f → (bs : List ℕ) → Stands P (f ++ bs)

-- The first place at fault in a report of the items from a moment on, where the bytes that are left begin at a place of the report. The
-- fields before it are right and no right field stands there: a missing or cut field is at fault at its own first byte, or at the
-- report's length; spare bytes after the totals at the first of them.
pub data FaultAt (M : Matter) : Moment → List Item → ℕ → List ℕ → ℕ → Type 0 where
  past : {b : Moment} {n : Note} {is : List Item} {at : ℕ} {bs : List ℕ} {p : ℕ} → FaultAt M (after (noted n) b) is at bs p → FaultAt M b (noted n ∷ is) at bs p
  behind : {b : Moment} {q : Question} {f : List ℕ} {is : List Item} {at : ℕ} {bs : List ℕ} {p : ℕ}
      → Answers M b q f → FaultAt M (after (posed q) b) is (at + length f) bs p → FaultAt M b (posed q ∷ is) at (f ++ bs) p
  -- No right field stands there: no answer, and no reason that only its sheets are missing of.
  wrong : {b : Moment} {q : Question} {is : List Item} {at : ℕ} {bs : List ℕ} → (Stands (Answers M b q) bs → ⊥) → ((L : List ℕ) → Stands (Reasoned M b q L) bs → ⊥) → FaultAt M b (posed q ∷ is) at bs at
  -- A right 84 or 86 stands there, and behind it not its 8A: that is at fault at its own first byte (document 02, No. 9).
  astray : {b : Moment} {q : Question} {L f : List ℕ} {is : List Item} {at : ℕ} {bs : List ℕ}
      → Reasoned M b q L f → (Stands (Filed M L) bs → ⊥) → FaultAt M b (posed q ∷ is) at (f ++ bs) (at + length f)
  closing : {b : Moment} {at : ℕ} {bs : List ℕ} → (Stands (Totalled M) bs → ⊥) → FaultAt M b [] at bs at
  spare : {b : Moment} {at : ℕ} {f : List ℕ} → Totalled M f → (x : ℕ) (bs : List ℕ) → FaultAt M b [] at (f ++ (x ∷ bs)) (at + length f)
