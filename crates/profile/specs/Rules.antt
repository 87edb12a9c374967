-- What a profile of the job settles, and what has to hold of it. Document 01 is the plain profile; document 02, No. 8, has the harness profile.
-- Assumes nothing.
use Rattle.std.specs.Prelude.{ℕ, ◌+◌, ◌*◌, ◌-◌, ◌≤◌, ◌≡◌, ◌↔◌, min, [], ◌∷◌, ◌++◌, length, Option, Some, None}
use mathlib.Core.List.{List, Memᴰ}
use Rattle.meaning.specs.Following.{Rec, Follows, UpTo}
use Rattle.meaning.specs.Reasons.{Above}
use Rattle.job_field.specs.Items.{Matter, Note, Moment, after, Question, ask, explain, broken, why, Item, noted, posed, records_of, room_for}
use Rattle.table.specs.Map.{list_in, records_in, Within}
use Rattle.table.specs.Past.{Past}
use Rattle.table.specs.Places.{scratch}
use Rattle.report.specs.Broken.{pair_no, Earliest, Unbroken}
use Rattle.report.specs.Report.{numbers, field, Filed, Totalled}
use Rattle.report.specs.Report as told
use Rattle.report.specs.Fault.{Stands}

pub record Rules : Type 1 where
  -- What it asks of a job's items, and of so many of their records where they stand in the table.
  pub Asks : List Item → Type 0
  pub Held : ℕ → List ℕ → Type 0
  -- Which list of numbers is a reason: of N tags, the records, how many of them stand before the question, and two tags.
  pub IsReason : ℕ → List Rec → ℕ → ℕ → ℕ → List ℕ → Type 0
  -- The fields that have a reason, the right fields, the sound reports, and the first place at fault in one that is not.
  pub Reasoned : Matter → Moment → Question → List ℕ → List ℕ → Type 0
  pub Answers : Matter → Moment → Question → List ℕ → Type 0
  pub Sound : Matter → Moment → List Item → List ℕ → Type 0
  pub FaultAt : Matter → Moment → List Item → ℕ → List ℕ → ℕ → Type 0

-- A list is a reason for s and t at a moment.
abbrev pub ReasonAt : Rules → Matter → Moment → ℕ → ℕ → List ℕ → Type 0
ReasonAt R M b s t L = R.IsReason M.head.size M.records b.records s t L

pub record Laws (R : Rules) : Type 0 where
  pub held : {is : List Item} {len : ℕ} {w : List ℕ} → R.Asks is → records_in len w ≡ records_of is → R.Held len w
  -- The numbers of a reason rise, stand before the question and are few.
  pub rising : {N : ℕ} {rs : List Rec} {B s t : ℕ} {L : List ℕ} → R.IsReason N rs B s t L → Above 0 L
  pub stand : {N : ℕ} {rs : List Rec} {B s t : ℕ} {L : List ℕ} → R.IsReason N rs B s t L → (k : ℕ) → Memᴰ k L → k ≤ B
  pub few : {N : ℕ} {rs : List Rec} {B s t : ℕ} {L : List ℕ} → R.IsReason N rs B s t L → length L ≤ min B (2 * (N - 1))
  -- An explain and a 06 have a reason, and no other question.
  pub because : {M : Matter} {b : Moment} {s t : ℕ} {L : List ℕ} → ReasonAt R M b s t L → R.Reasoned M b (explain s t) L (field 132 (numbers L))
  pub breached : {M : Matter} {b : Moment} {k : ℕ} {L : List ℕ} → Earliest M.records b.records M.pairs b.differs k → ReasonAt R M b (pair_no M.pairs k).first (pair_no M.pairs k).second L
      → R.Reasoned M b broken L (field 134 (numbers (k ∷ L)))
  pub no-ask : {M : Matter} {b : Moment} {s t : ℕ} {L f : List ℕ} → R.Reasoned M b (ask s t) L f → ⊥
  pub no-why : {M : Matter} {b : Moment} {s t : ℕ} {L f : List ℕ} → R.Reasoned M b (why s t) L f → ⊥
  -- An ask and a why are answered as in the plain profile; a reason is an answer with what belongs behind it, and there are the answers that have none.
  pub asked : {M : Matter} {b : Moment} {s t : ℕ} (f : List ℕ) → R.Answers M b (ask s t) f ↔ told.Answers M b (ask s t) f
  pub doubted : {M : Matter} {b : Moment} {s t : ℕ} (f : List ℕ) → R.Answers M b (why s t) f ↔ told.Answers M b (why s t) f
  pub reasoned : {M : Matter} {b : Moment} {q : Question} {L f g : List ℕ} → R.Reasoned M b q L f → Filed M L g → R.Answers M b q (f ++ g)
  pub apart : {M : Matter} {b : Moment} {s t : ℕ} → (Follows (UpTo M.records b.records) s t → ⊥) → R.Answers M b (explain s t) (field 133 [])
  pub intact : {M : Matter} {b : Moment} → Unbroken M.records b.records M.pairs b.differs → R.Answers M b broken (field 135 [])
  pub fits : {M : Matter} {b : Moment} {q : Question} {f : List ℕ} → R.Answers M b q f → length f ≤ room_for M.head b q
  -- A report is sound where each question is answered at its moment and the totals close it.
  pub totals : {M : Matter} {b : Moment} {bs : List ℕ} → Totalled M bs → R.Sound M b [] bs
  pub passed : {M : Matter} {b : Moment} {n : Note} {is : List Item} {bs : List ℕ} → R.Sound M (after (noted n) b) is bs → R.Sound M b (noted n ∷ is) bs
  pub answered : {M : Matter} {b : Moment} {q : Question} {f : List ℕ} {is : List Item} {bs : List ℕ} → R.Answers M b q f → R.Sound M (after (posed q) b) is bs → R.Sound M b (posed q ∷ is) (f ++ bs)
  -- A fault is where no right field stands behind right ones, where the sheets of a right reason should stand, or behind the totals.
  pub past : {M : Matter} {b : Moment} {n : Note} {is : List Item} {at : ℕ} {bs : List ℕ} {p : ℕ} → R.FaultAt M (after (noted n) b) is at bs p → R.FaultAt M b (noted n ∷ is) at bs p
  pub behind : {M : Matter} {b : Moment} {q : Question} {f : List ℕ} {is : List Item} {at : ℕ} {bs : List ℕ} {p : ℕ}
      → R.Answers M b q f → R.FaultAt M (after (posed q) b) is (at + length f) bs p → R.FaultAt M b (posed q ∷ is) at (f ++ bs) p
  pub wrong : {M : Matter} {b : Moment} {q : Question} {is : List Item} {at : ℕ} {bs : List ℕ} → (Stands (R.Answers M b q) bs → ⊥) → ((L : List ℕ) → Stands (R.Reasoned M b q L) bs → ⊥) → R.FaultAt M b (posed q ∷ is) at bs at
  pub astray : {M : Matter} {b : Moment} {q : Question} {L f : List ℕ} {is : List Item} {at : ℕ} {bs : List ℕ}
      → R.Reasoned M b q L f → (Stands (Filed M L) bs → ⊥) → R.FaultAt M b (posed q ∷ is) at (f ++ bs) (at + length f)
  pub closing : {M : Matter} {b : Moment} {at : ℕ} {bs : List ℕ} → (Stands (Totalled M) bs → ⊥) → R.FaultAt M b [] at bs at
  pub spare : {M : Matter} {b : Moment} {at : ℕ} {f : List ℕ} → Totalled M f → (x : ℕ) (bs : List ℕ) → R.FaultAt M b [] at (f ++ (x ∷ bs)) (at + length f)

-- What is found for two tags, with w the table as it is left: the first c numbers of the list are a reason, or the equality does not follow.
abbrev pub Says : Rules → ℕ → List Rec → ℕ → ℕ → ℕ → List ℕ → Option ℕ → Type 0
Says R N rs B s t w (Some c) = R.IsReason N rs B s t (list_in c w)
Says R N rs B s t w None = Follows (UpTo rs B) s t → ⊥

-- From w to w' a reason was looked for: the past stays, so that the next question may be asked.
pub record Found (R : Rules) (N len joins B s t : ℕ) (w w' : List ℕ) (answer : Option ℕ) : Type 0 where
  pub kept : Within scratch w w'
  pub past : Past N len w' joins
  pub says : Says R N (records_in len w) B s t w' answer
