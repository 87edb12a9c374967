-- Document 01, "Every answer accounted for": two outcomes that satisfy a call's promise are one. The one exception is which list stands
-- where several are reasons, with the report bytes and the length that come of it.
-- Assumes nothing.
use Rattle.std.specs.Prelude.{ℕ, ◌≡◌, List, [], ◌∷◌, ◌++◌, length, drop}
use Rattle.meaning.specs.Reasons.{Reason}
use Rattle.job_field.specs.Items.{Head, Matter, matter_of, Note, Moment, start, after, Question, explain, broken, Item, noted, posed, accepted}
use Rattle.job_field.specs.Reading.{reading}
use Rattle.report.specs.Report.{numbers, field, Filed, Answers, Totalled}
use Rattle.report.specs.Broken.{Earliest, PairReason}
use Rattle.records.specs.declared.Record.{Record}

-- Two reports of the same items from a moment on, both of right fields, that differ at most in which reason stands where an explain is answered by
-- one, or a 06 by a broken pair, whose number is one, and in the sheets of that reason, which are one for each (proofs/One, filed-same).
pub data Alike (M : Matter) : Moment → List Item → List ℕ → List ℕ → Type 0 where
  totals : {b : Moment} {bs : List ℕ} → Totalled M bs → Alike M b [] bs bs
  passed : {b : Moment} {n : Note} {is : List Item} {bs bs' : List ℕ} → Alike M (after (noted n) b) is bs bs' → Alike M b (noted n ∷ is) bs bs'
  answered : {b : Moment} {q : Question} {is : List Item} {f bs bs' : List ℕ} → Answers M b q f → Alike M (after (posed q) b) is bs bs' → Alike M b (posed q ∷ is) (f ++ bs) (f ++ bs')
  reasoned : {b : Moment} {s t : ℕ} {is : List Item} {L L' g g' bs bs' : List ℕ} → Reason M.head.size M.records b.records s t L → Reason M.head.size M.records b.records s t L' → Filed M L g → Filed M L' g'
      → Alike M (after (posed (explain s t)) b) is bs bs' → Alike M b (posed (explain s t) ∷ is) ((field 132 (numbers L) ++ g) ++ bs) ((field 132 (numbers L') ++ g') ++ bs')
  breached : {b : Moment} {k : ℕ} {is : List Item} {L L' g g' bs bs' : List ℕ} → Earliest M.records b.records M.pairs b.differs k → PairReason M b k L → PairReason M b k L' → Filed M L g → Filed M L' g'
      → Alike M (after (posed broken) b) is bs bs' → Alike M b (posed broken ∷ is) ((field 134 (numbers (k ∷ L)) ++ g) ++ bs) ((field 134 (numbers (k ∷ L')) ++ g') ++ bs')

-- Two outcomes of a run on the same job and room: number and place are one, both tables are one, and so are length and room, but for the choice
-- among reasons, where the job is accepted: then both reports are of its own items, held against its own N and records.
pub data OneRun (job room : List ℕ) (records records' : List Record) (work work' : List ℕ) : ℕ → ℕ → ℕ → List ℕ → ℕ → ℕ → ℕ → List ℕ → Type 0 where
  equal : {n p l : ℕ} {room' : List ℕ} → records ≡ records' → work ≡ work' → OneRun job room records records' work work' n p l room' n p l room'
  chosen : {H : Head} {items : List Item} {bs bs' : List ℕ} → reading job ≡ accepted H items → records ≡ records' → work ≡ work' → Alike (matter_of H items) start items bs bs'
      → OneRun job room records records' work work' 0 0 (length bs) (bs ++ drop (length bs) room) 0 0 (length bs') (bs' ++ drop (length bs') room)
