-- DEFINITIONS, to be read against document 02, No. 8: the report of a plain harness sheet. Fields, totals and their order are document 01's, and only which list is a reason
-- is its own: "whose reason has the fewest records possible among those before the question; of equally short ones, the smallest by first differing record number".
-- Assumes nothing.
use Rattle.std.specs.Prelude.{ℕ, List, [], ◌∷◌, ◌++◌}
use Rattle.meaning.specs.Following.{Follows, UpTo}
use Rattle.job_field.specs.Items.{Matter, Note, Moment, after, Question, ask, explain, broken, why, Item, noted, posed}
use Rattle.report.specs.Broken.{pair_no, Earliest, Unbroken}
use Rattle.report.specs.Report.{numbers, field, Filed, Answers, Totalled}
use Rattle.harness_meaning.specs.Harness.{Harness}

-- A list is the reason for s and t at a moment.
abbrev pub ReasonAt : Matter → Moment → ℕ → ℕ → List ℕ → Type 0
ReasonAt M b s t L = Harness M.head.size M.records b.records s t L

-- .. and for the tags of pair number k, since "demand 3 covers reasons in 86 too" (No. 1).
abbrev pub PairReasonAt : Matter → Moment → ℕ → List ℕ → Type 0
PairReasonAt M b k L = ReasonAt M b (pair_no M.pairs k).first (pair_no M.pairs k).second L

-- The two fields that have a reason, as `Reasoned` has them: 84 (132) for an explain, and 86 (134), with the number of the earliest broken pair, for a 06.
pub data HarnessReasoned (M : Matter) (b : Moment) : Question → List ℕ → List ℕ → Type 0 where
  because : {s t : ℕ} {L : List ℕ} → ReasonAt M b s t L → HarnessReasoned M b (explain s t) L (field 132 (numbers L))
  breached : {k : ℕ} {L : List ℕ} → Earliest M.records b.records M.pairs b.differs k → PairReasonAt M b k L → HarnessReasoned M b broken L (field 134 (numbers (k ∷ L)))

-- The right fields for a question at its moment. An ask and a why are answered as elsewhere; an explain by the reason or that the equality does not follow (85); a 06 by the
-- earliest broken pair and the reason for its tags, or that none is broken (87). In edition 2 "the distinct sheets of that reason" (No. 9) stand behind it, as elsewhere.
pub data HarnessAnswers (M : Matter) (b : Moment) : Question → List ℕ → Type 0 where
  asked : {s t : ℕ} {f : List ℕ} → Answers M b (ask s t) f → HarnessAnswers M b (ask s t) f
  reasoned : {q : Question} {L f g : List ℕ} → HarnessReasoned M b q L f → Filed M L g → HarnessAnswers M b q (f ++ g)
  apart : {s t : ℕ} → (Follows (UpTo M.records b.records) s t → ⊥) → HarnessAnswers M b (explain s t) (field 133 [])
  intact : Unbroken M.records b.records M.pairs b.differs → HarnessAnswers M b broken (field 135 [])
  doubted : {s t : ℕ} {f : List ℕ} → Answers M b (why s t) f → HarnessAnswers M b (why s t) f

-- A sound report of the items from a moment on: each question is answered at its moment, and the totals close the report.
pub data HarnessSound (M : Matter) : Moment → List Item → List ℕ → Type 0 where
  totals : {b : Moment} {bs : List ℕ} → Totalled M bs → HarnessSound M b [] bs
  passed : {b : Moment} {n : Note} {is : List Item} {bs : List ℕ} → HarnessSound M (after (noted n) b) is bs → HarnessSound M b (noted n ∷ is) bs
  answered : {b : Moment} {q : Question} {f : List ℕ} {is : List Item} {bs : List ℕ} → HarnessAnswers M b q f → HarnessSound M (after (posed q) b) is bs → HarnessSound M b (posed q ∷ is) (f ++ bs)
