-- Where every tag has got its leader, the leaders in order are the list that answers a why, and two of them compared tell whether the equality follows.
-- Assumes nothing.
use Prim.Native.Nat.{ℕ, ◌+◌, ◌*◌, ◌≤◌, ◌<◌}
use native.Mathlib.Omega.{arith}
use mathlib.Core.Path.{◌≡◌, refl, sym, ◌∙◌}
use mathlib.Core.Logic.{◌≢◌}
use mathlib.Core.List.{List, []}
use lib.ListN.{length}
use Rattle.meaning.specs.Following.{Rec, Follows, UpTo}
use Rattle.meaning.specs.Looks.{Led}
use Rattle.meaning.proofs.Looks.{led-one}
use Rattle.meaning.proofs.Units.{leader-same}
use Rattle.job_field.specs.Items.{Head, why}
use Rattle.table.specs.Map.{records_in, gather}
use Rattle.table.specs.Past.{Past}
use Rattle.table.proofs.Frame.{length-gather, get_or-gather}
use Rattle.leading.specs.Leading.{leader_in, Leadable, Led as LedIn}
use Rattle.report.specs.Report.{numbers, field, Answers, reasoned, parted, joined, tabled, after_records}
use Rattle.report.proofs.Bytes.{length-field, length-numbers}
use Rattle.report.proofs.Known.{no-reason}
use Rattle.report_read.specs.Read.{Holds}
use Rattle.std.specs.Prelude.{Ok, Err}
use Rattle.answer_ask.specs.Right.{RightAt, to, wrong}
use Rattle.answer_ask.proofs.Right.{found}
use Rattle.answer_why.specs.Why.{Labelled}

pub labelled-after : {w w' : List ℕ} {N U joins before : ℕ} → Leadable w N U joins → LedIn w w' N U joins before → Labelled w' N
labelled-after h d = record { long = omega (arith, d.frame.size, h.forest.long); few = h.few; low = λ x l. omega (arith, h.few, d.low x l) }

module _ {w w' : List ℕ} {N U joins before len : ℕ} (d : LedIn w w' N U joins before) (P : Past N len w joins) (k : before ≤ len) where
  pub led-all : Led N U (UpTo (records_in len w) before) (gather (leader_in w') N)
  led-all = record { full = length-gather (leader_in w') N; each = λ x l. rw (get_or-gather (leader_in w') N x 0 l) (d.leads len P k x l) }

  module _ {s t l m : ℕ} (s-tag : s < N) (t-tag : t < N) (e : l ≡ leader_in w' s) (f : m ≡ leader_in w' t) where
    pub same-follows : l ≡ m → Follows (UpTo (records_in len w) before) s t
    same-follows q = (leader-same (d.leads len P k s s-tag) (d.leads len P k t t-tag)).1 (sym e ∙ q ∙ f)

    pub other-apart : l ≢ m → Follows (UpTo (records_in len w) before) s t → ⊥
    other-apart q h = q (e ∙ (leader-same (d.leads len P k s s-tag) (d.leads len P k t t-tag)).0 h ∙ sym f)

pub length-leaders : (f : ℕ → ℕ) (n kind : ℕ) → length (field kind (numbers (gather f n))) ≡ 3 + 2 * n
length-leaders f n kind = omega (arith, length-field kind (numbers (gather f n)), length-numbers (gather f n), length-gather f n)

-- A why has one right field.
module _ {H : Head} {rs : List Rec} {R s t : ℕ} (report : List ℕ) (at : ℕ) where
  module _ (h : Follows (UpTo rs R) s t) where
    joined-field : {f : List ℕ} → Answers (tabled H rs) (after_records R) (why s t) f → f ≡ field 137 []
    joined-field (parted n d) = absurd (n h)
    joined-field (joined g) = refl
    joined-field (reasoned r g) = absurd (no-reason refl r)

    pub joined-right : Holds report at (field 137 []) → RightAt (Answers (tabled H rs) (after_records R) (why s t)) report at (Ok (at + 3))
    joined-right g = to {p = at + 3} (joined h) g (omega (arith, length-field 137 []))

    pub joined-wrong : (Holds report at (field 137 []) → ⊥) → RightAt (Answers (tabled H rs) (after_records R) (why s t)) report at (Err at)
    joined-wrong g = wrong (λ x. let r = found report at x in g (rw (joined-field r.is) at r.holds)) refl

  module _ (n : Follows (UpTo rs R) s t → ⊥) {L : List ℕ} (d : Led H.size H.units (UpTo rs R) L) where
    parted-field : {f : List ℕ} → Answers (tabled H rs) (after_records R) (why s t) f → f ≡ field 136 (numbers L)
    parted-field (parted n' d') = rw (led-one d' d)
    parted-field (joined g) = absurd (n g)
    parted-field (reasoned r g) = absurd (no-reason refl r)

    pub parted-right : {p : ℕ} → Holds report at (field 136 (numbers L)) → p ≡ at + length (field 136 (numbers L)) → RightAt (Answers (tabled H rs) (after_records R) (why s t)) report at (Ok p)
    parted-right g e = to (parted n d) g e

    pub parted-wrong : (Holds report at (field 136 (numbers L)) → ⊥) → RightAt (Answers (tabled H rs) (after_records R) (why s t)) report at (Err at)
    parted-wrong g = wrong (λ x. let r = found report at x in g (rw (parted-field r.is) at r.holds)) refl
