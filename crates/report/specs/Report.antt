-- Document 01, "The job and the report": the report has one field for each question in order, then the totals, and nothing else.
-- The run writes such a report and the recheck decides whether it has one. Document 02, No. 1: kinds 86 and 87; No. 9: kind 8A.
-- Assumes nothing.
use Rattle.std.specs.Prelude.{ℕ, ◌+◌, ◌/◌, ◌%◌, ◌≡◌, true, false, List, [], ◌∷◌, ◌++◌, length, take, drop}
use Rattle.meaning.specs.Following.{Rec, Follows, UpTo, Leader}
use Rattle.meaning.specs.Looks.{Led}
use Rattle.meaning.specs.Reasons.{Reason}
use Rattle.meaning.specs.Totals.{Classes, Idles}
use Rattle.job_field.specs.Items.{Head, Matter, Note, Moment, after, Question, ask, explain, broken, why, Item, noted, posed}
use Rattle.report.specs.Broken.{Earliest, Unbroken, PairReason}
use Rattle.report.specs.Sheets.{Sheets}

-- All numbers are two bytes, high byte first.
unfoldable pub two : ℕ → List ℕ
two n = n / 256 ∷ n % 256 ∷ []

unfoldable pub numbers : List ℕ → List ℕ
numbers [] = []
numbers (n ∷ ns) = two n ++ numbers ns

-- A field is one kind byte, a two-byte length, then the body.
unfoldable pub front : ℕ → ℕ → List ℕ
front kind size = kind ∷ two size

unfoldable pub field : ℕ → List ℕ → List ℕ
field kind body = front kind (length body) ++ body

-- The right fields for a question at its moment: of the job's records, those before the question decide. 83 hex (131): leader of s,
-- leader of t. 84 (132): the reason's record numbers. 85 (133): none, the equality does not follow. 86 (134): the number of the earliest
-- broken pair that must differ, and a reason why its tags are equal. 87 (135): none, where no pair is broken. Document 02, No. 7: "if the equality does
-- not follow, report kind 88 (136) with the leader of every tag in order, N numbers; otherwise 89 (137) with no body".
-- The two that have a reason stand first, since in edition 2 its sheets stand behind it.
pub data Reasoned (M : Matter) (b : Moment) : Question → List ℕ → List ℕ → Type 0 where
  because : {s t : ℕ} {L : List ℕ} → Reason M.head.size M.records b.records s t L → Reasoned M b (explain s t) L (field 132 (numbers L))
  breached : {k : ℕ} {L : List ℕ} → Earliest M.records b.records M.pairs b.differs k → PairReason M b k L → Reasoned M b broken L (field 134 (numbers (k ∷ L)))

-- "Add kind 8A (138) after each 84 or 86", in edition 2; "edition 1 jobs behave as before": there nothing stands behind them.
pub data Filed (M : Matter) (L : List ℕ) : List ℕ → Type 0 where
  unfiled : M.head.sheeted ≡ false → Filed M L []
  filed : {hs : List ℕ} → M.head.sheeted ≡ true → Sheets M.sheets L hs → Filed M L (field 138 (numbers hs))

pub data Answers (M : Matter) (b : Moment) : Question → List ℕ → Type 0 where
  led : {s t l m : ℕ} → Leader M.head.units (UpTo M.records b.records) s l → Leader M.head.units (UpTo M.records b.records) t m → Answers M b (ask s t) (field 131 (numbers (l ∷ m ∷ [])))
  reasoned : {q : Question} {L f g : List ℕ} → Reasoned M b q L f → Filed M L g → Answers M b q (f ++ g)
  apart : {s t : ℕ} → (Follows (UpTo M.records b.records) s t → ⊥) → Answers M b (explain s t) (field 133 [])
  intact : Unbroken M.records b.records M.pairs b.differs → Answers M b broken (field 135 [])
  parted : {s t : ℕ} {L : List ℕ} → (Follows (UpTo M.records b.records) s t → ⊥) → Led M.head.size M.head.units (UpTo M.records b.records) L → Answers M b (why s t) (field 136 (numbers L))
  joined : {s t : ℕ} → Follows (UpTo M.records b.records) s t → Answers M b (why s t) (field 137 [])

-- 8F (143): number of classes, number of idle records, at the end of the job.
pub data Totalled (M : Matter) : List ℕ → Type 0 where
  total : {c i : ℕ} → Classes M.head.size (UpTo M.records (length M.records)) c → Idles M.records i → Totalled M (field 143 (numbers (c ∷ i ∷ [])))

-- A sound report of the items from a moment on: each question is answered at its moment, and the totals close the report.
pub data Sound (M : Matter) : Moment → List Item → List ℕ → Type 0 where
  totals : {b : Moment} {bs : List ℕ} → Totalled M bs → Sound M b [] bs
  passed : {b : Moment} {n : Note} {is : List Item} {bs : List ℕ} → Sound M (after (noted n) b) is bs → Sound M b (noted n ∷ is) bs
  answered : {b : Moment} {q : Question} {f : List ℕ} {is : List Item} {bs : List ℕ} → Answers M b q f → Sound M (after (posed q) b) is bs → Sound M b (posed q ∷ is) (f ++ bs)

-- What the tables know of a matter and a moment: what the first field says, the records, and how many of them stand before it.
pub record Known (M : Matter) (b : Moment) (H : Head) (rs : List Rec) (R : ℕ) : Type 0 where
  pub head : M.head ≡ H
  pub records : M.records ≡ rs
  pub before : b.records ≡ R

-- A matter and a moment of which no more is known.
abbrev pub tabled : Head → List Rec → Matter
tabled H rs = record { head = H; records = rs; pairs = []; sheets = [] }

abbrev pub after_records : ℕ → Moment
after_records R = record { records = R; differs = 0; questions = 0 }

-- The room with bytes laid into it at a place: every other byte is as it was.
unfoldable pub laid : ℕ → List ℕ → List ℕ → List ℕ
laid at bs room = take at room ++ (bs ++ drop (at + length bs) room)
