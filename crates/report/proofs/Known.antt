-- An answer to an ask or a why, and the reason of an explain, looks at N and U, the records and how many of them stand before it, and at nothing else: what the
-- tables know of a matter and a moment decides it.
-- Assumes nothing.
use Prim.Native.Nat.{ℕ}
use native.Mathlib.Omega.{arith}
use mathlib.Core.Path.{◌≡◌, refl}
use mathlib.Core.Bool.{Bool, true, false}
use mathlib.Core.List.{List}
use Rattle.meaning.specs.Following.{Rec}
use Rattle.job_field.specs.Items.{Head, Matter, Moment, Question, ask, explain, broken, why, room_for}
use Rattle.meaning.specs.Reasons.{Reason}
use Rattle.report.specs.Report.{numbers, field, Reasoned, because, breached, Answers, led, reasoned, parted, joined, Known, tabled, after_records}
use Rattle.report.specs.Fault.{Stands, stands}

pub stands-map : {P Q : List ℕ → Type 0} {bs : List ℕ} → ((f : List ℕ) → P f → Q f) → Stands P bs → Stands Q bs
stands-map h (stands {f = f} p bs) = stands (h f p) bs

-- Only an explain and a 06 have a reason.
abbrev has_reason : Question → Bool
has_reason (ask s t) = false
has_reason (explain s t) = true
has_reason broken = true
has_reason (why s t) = false

has-reason : {M : Matter} {b : Moment} {q : Question} {L f : List ℕ} → Reasoned M b q L f → has_reason q ≡ true
has-reason (because r) = refl
has-reason (breached e r) = refl

pub no-reason : {M : Matter} {b : Moment} {q : Question} → has_reason q ≡ false → {L f : List ℕ} → Reasoned M b q L f → ⊥
no-reason e r = let y : _ ≡ true = has-reason r in let z : ◌≡◌ {A = ℕ} 0 1 = cc in omega arith

module _ {M : Matter} {b : Moment} {H : Head} {rs : List Rec} {R : ℕ} (K : Known M b H rs R) {s t : ℕ} where
  pub ask-known : (f : List ℕ) → Answers (tabled H rs) (after_records R) (ask s t) f → Answers M b (ask s t) f
  ask-known f (led {l = l} {m = m} h k) = led {s = s} {t = t} {l = l} {m = m} (rw (K.head, K.records, K.before) h) (rw (K.head, K.records, K.before) k)
  ask-known f (reasoned r g) = absurd (no-reason refl r)

  pub ask-tabled : (f : List ℕ) → Answers M b (ask s t) f → Answers (tabled H rs) (after_records R) (ask s t) f
  ask-tabled f (led h k) = led (rw (K.head, K.records, K.before) at h) (rw (K.head, K.records, K.before) at k)
  ask-tabled f (reasoned r g) = absurd (no-reason refl r)

  pub because-known : {L : List ℕ} → Reason H.size rs R s t L → Reasoned M b (explain s t) L (field 132 (numbers L))
  because-known {L} r = because {s = s} {t = t} {L = L} (rw (K.head, K.records, K.before) r)

  pub because-tabled : {L f : List ℕ} → Reasoned M b (explain s t) L f → Reasoned (tabled H rs) (after_records R) (explain s t) L f
  because-tabled (because r) = because (rw (K.head, K.records, K.before) at r)

  pub why-known : (f : List ℕ) → Answers (tabled H rs) (after_records R) (why s t) f → Answers M b (why s t) f
  why-known f (parted {L = L} h d) = parted {s = s} {t = t} {L = L} (rw (K.records, K.before) h) (rw (K.head, K.records, K.before) d)
  why-known f (joined h) = joined {s = s} {t = t} (rw (K.records, K.before) h)
  why-known f (reasoned r g) = absurd (no-reason refl r)

  pub why-tabled : (f : List ℕ) → Answers M b (why s t) f → Answers (tabled H rs) (after_records R) (why s t) f
  why-tabled f (parted h d) = parted (rw (K.records, K.before) at h) (rw (K.head, K.records, K.before) at d)
  why-tabled f (joined h) = joined (rw (K.records, K.before) at h)
  why-tabled f (reasoned r g) = absurd (no-reason refl r)

-- So with the room that a question needs.
pub room-known : (H : Head) (b : Moment) (H' : Head) (R : ℕ) (q : Question) → H ≡ H' → b.records ≡ R → room_for H b q ≡ room_for H' (after_records R) q
room-known H b H' R (ask s t) e d = refl
room-known H b H' R (explain s t) e d = rw (e, d)
room-known H b H' R broken e d = rw (e, d)
room-known H b H' R (why s t) e d = rw e
