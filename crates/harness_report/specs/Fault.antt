-- DEFINITIONS, to be read against document 01, number 10 of "What is lent, and each refusal", and document 02, No. 8, "Its recheck uses this rule": the first byte of the first
-- report field at fault. Assumes nothing.
use Rattle.std.specs.Prelude.{ℕ, ◌+◌, List, [], ◌∷◌, ◌++◌, length}
use Rattle.job_field.specs.Items.{Matter, Note, Moment, after, Question, Item, noted, posed}
use Rattle.report.specs.Report.{Filed, Totalled}
use Rattle.report.specs.Fault.{Stands}
use Rattle.harness_report.specs.Report.{HarnessReasoned, HarnessAnswers}

-- The fields before the place are right and no right field stands there: a missing or cut field is at fault at its own first byte, or at the report's length; spare bytes after
-- the totals at the first of them.
pub data HarnessFault (M : Matter) : Moment → List Item → ℕ → List ℕ → ℕ → Type 0 where
  past : {b : Moment} {n : Note} {is : List Item} {at : ℕ} {bs : List ℕ} {p : ℕ} → HarnessFault M (after (noted n) b) is at bs p → HarnessFault M b (noted n ∷ is) at bs p
  behind : {b : Moment} {q : Question} {f : List ℕ} {is : List Item} {at : ℕ} {bs : List ℕ} {p : ℕ}
      → HarnessAnswers M b q f → HarnessFault M (after (posed q) b) is (at + length f) bs p → HarnessFault M b (posed q ∷ is) at (f ++ bs) p
  -- No right field stands there: no answer, and no reason that only its sheets are missing of.
  wrong : {b : Moment} {q : Question} {is : List Item} {at : ℕ} {bs : List ℕ} → (Stands (HarnessAnswers M b q) bs → ⊥) → ((L : List ℕ) → Stands (HarnessReasoned M b q L) bs → ⊥) → HarnessFault M b (posed q ∷ is) at bs at
  -- A right 84 or 86 stands there, and behind it not its 8A: that is at fault at its own first byte (document 02, No. 9).
  astray : {b : Moment} {q : Question} {L f : List ℕ} {is : List Item} {at : ℕ} {bs : List ℕ}
      → HarnessReasoned M b q L f → (Stands (Filed M L) bs → ⊥) → HarnessFault M b (posed q ∷ is) at (f ++ bs) (at + length f)
  closing : {b : Moment} {at : ℕ} {bs : List ℕ} → (Stands (Totalled M) bs → ⊥) → HarnessFault M b [] at bs at
  spare : {b : Moment} {at : ℕ} {f : List ℕ} → Totalled M f → (x : ℕ) (bs : List ℕ) → HarnessFault M b [] at (f ++ (x ∷ bs)) (at + length f)
