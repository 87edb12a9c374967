-- An answer to an explain looks at N, the records and how many of them stand before it, and at nothing else. Assumes nothing.
use Prim.Native.Nat.{ℕ}
use mathlib.Core.Path.{refl}
use mathlib.Core.List.{List, []}
use Rattle.meaning.specs.Following.{Rec, Follows, UpTo}
use Rattle.job_field.specs.Items.{Head, Matter, Moment, ask, explain, why}
use Rattle.report.specs.Report.{numbers, field, Answers, Known, tabled, after_records}
use Rattle.report.proofs.Known.{ask-known, ask-tabled, why-known, why-tabled}
use Rattle.harness_meaning.specs.Harness.{Harness}
use Rattle.harness_report.specs.Report.{HarnessReasoned, because, HarnessAnswers, asked, reasoned, apart, doubted}
use Rattle.harness_report.proofs.One.{harness-no-reason}

module _ {M : Matter} {b : Moment} {H : Head} {rs : List Rec} {R : ℕ} (K : Known M b H rs R) {s t : ℕ} where
  pub harness-because-known : {L : List ℕ} → Harness H.size rs R s t L → HarnessReasoned M b (explain s t) L (field 132 (numbers L))
  harness-because-known {L} r = because {s = s} {t = t} {L = L} (rw (K.head, K.records, K.before) r)

  pub harness-apart-known : (Follows (UpTo rs R) s t → ⊥) → HarnessAnswers M b (explain s t) (field 133 [])
  harness-apart-known h = apart {s = s} {t = t} (rw (K.records, K.before) h)

  -- An ask and a why, answered as elsewhere.
  pub harness-ask-known : (f : List ℕ) → Answers (tabled H rs) (after_records R) (ask s t) f → HarnessAnswers M b (ask s t) f
  harness-ask-known f a = asked (ask-known K f a)

  pub harness-ask-tabled : (f : List ℕ) → HarnessAnswers M b (ask s t) f → Answers (tabled H rs) (after_records R) (ask s t) f
  harness-ask-tabled f (asked a) = ask-tabled K f a
  harness-ask-tabled f (reasoned r g) = absurd (harness-no-reason refl r)

  pub harness-why-known : (f : List ℕ) → Answers (tabled H rs) (after_records R) (why s t) f → HarnessAnswers M b (why s t) f
  harness-why-known f a = doubted (why-known K f a)

  pub harness-why-tabled : (f : List ℕ) → HarnessAnswers M b (why s t) f → Answers (tabled H rs) (after_records R) (why s t) f
  harness-why-tabled f (doubted a) = why-tabled K f a
  harness-why-tabled f (reasoned r g) = absurd (harness-no-reason refl r)
