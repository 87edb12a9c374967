-- What the tables know of a matter and a moment decides an ask, a why and the reason of an explain, by the rules of any profile.
-- Assumes nothing.
use Prim.Native.Nat.{ℕ}
use mathlib.Core.List.{List, []}
use Rattle.meaning.specs.Following.{Rec, Follows, UpTo}
use Rattle.job_field.specs.Items.{Head, Matter, Moment, ask, explain, why}
use Rattle.report.specs.Report.{numbers, field, Answers, Known, tabled, after_records}
use Rattle.report.proofs.Known as told
use Rattle.profile.specs.Rules.{Rules, Laws}

module _ {R : Rules} (laws : Laws R) {M : Matter} {b : Moment} {H : Head} {rs : List Rec} {B : ℕ} (K : Known M b H rs B) {s t : ℕ} where
  pub because-known : {L : List ℕ} → R.IsReason H.size rs B s t L → R.Reasoned M b (explain s t) L (field 132 (numbers L))
  because-known {L} r = laws.because {s = s} {t = t} {L = L} (rw (K.head, K.records, K.before) r)

  pub apart-known : (Follows (UpTo rs B) s t → ⊥) → R.Answers M b (explain s t) (field 133 [])
  apart-known n = laws.apart {s = s} {t = t} (rw (K.records, K.before) n)

  pub ask-known : (f : List ℕ) → Answers (tabled H rs) (after_records B) (ask s t) f → R.Answers M b (ask s t) f
  ask-known f a = (laws.asked f).1 (told.ask-known K f a)

  pub ask-tabled : (f : List ℕ) → R.Answers M b (ask s t) f → Answers (tabled H rs) (after_records B) (ask s t) f
  ask-tabled f a = told.ask-tabled K f ((laws.asked f).0 a)

  pub why-known : (f : List ℕ) → Answers (tabled H rs) (after_records B) (why s t) f → R.Answers M b (why s t) f
  why-known f a = (laws.doubted f).1 (told.why-known K f a)

  pub why-tabled : (f : List ℕ) → R.Answers M b (why s t) f → Answers (tabled H rs) (after_records B) (why s t) f
  why-tabled f a = told.why-tabled K f ((laws.doubted f).0 a)
