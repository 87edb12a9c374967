-- A right field that stands at a place is found there whole, so that comparing its bytes with those of the one right field decides
-- whether one stands there. Assumes nothing.
use Prim.Native.Nat.{ℕ, ◌+◌, ◌≤◌}
use native.Mathlib.Omega.{arith}
use mathlib.Core.Path.{◌≡◌, refl}
use mathlib.Core.List.{List, [], ◌∷◌}
use lib.ListN.{length, drop}
use Rattle.meaning.specs.Following.{Rec, UpTo, Leader}
use Rattle.meaning.proofs.Units.{leader-one}
use Rattle.job_field.specs.Items.{Head, ask}
use Rattle.report.specs.Report.{numbers, field, Answers, led, reasoned, tabled, after_records}
use Rattle.report.specs.Fault.{Stands, stands}
use Rattle.report.proofs.Known.{stands-map, no-reason}
use Rattle.report.proofs.Bytes.{length-field, length-numbers}
use Rattle.report_read.specs.Read.{Holds}
use Rattle.report_read.proofs.Read.{holds-rest, holds-room}
use Rattle.std.specs.Prelude.{Result, Ok, Err}
use Rattle.answer_ask.specs.Right.{RightAt, to, wrong}

-- What stands at the front of the bytes from a place on stands at the place.
pub record Found (P : List ℕ → Type 0) (report : List ℕ) (at : ℕ) : Type 0 where
  pub bytes : List ℕ
  pub is : P bytes
  pub holds : Holds report at bytes

pub found : {P : List ℕ → Type 0} (report : List ℕ) (at : ℕ) → Stands P (drop at report) → Found P report at
found {P} report at h = go h refl
  where
    go : {cs : List ℕ} → Stands P cs → drop at report ≡ cs → Found P report at
    go (stands {f} p bs) e = record { bytes = f; is = p; holds = holds-rest report at f bs e }

-- An ask has one right field.
ask-field : {H : Head} {rs : List Rec} {R s t l m : ℕ} {f : List ℕ} → Leader H.units (UpTo rs R) s l → Leader H.units (UpTo rs R) t m → Answers (tabled H rs) (after_records R) (ask s t) f → f ≡ field 131 (numbers (l ∷ m ∷ []))
ask-field h k (led h' k') = rw (leader-one h' h, leader-one k' k)
ask-field h k (reasoned r g) = absurd (no-reason refl r)

length-pair : (kind a b : ℕ) → length (field kind (numbers (a ∷ b ∷ []))) ≡ 7
length-pair kind a b = omega (arith, length-field kind (numbers (a ∷ b ∷ [])), length-numbers (a ∷ b ∷ []))

pub pair-room : (report : List ℕ) (at kind a b : ℕ) → at ≤ length report → Holds report at (field kind (numbers (a ∷ b ∷ []))) → at + 7 ≤ length report
pair-room report at kind a b l h = omega (arith, holds-room report at (field kind (numbers (a ∷ b ∷ []))) l h, length-pair kind a b)

module _ {H : Head} {rs : List Rec} {R s t l m : ℕ} (h : Leader H.units (UpTo rs R) s l) (k : Leader H.units (UpTo rs R) t m) (report : List ℕ) (at : ℕ) where
  pub led-right : Holds report at (field 131 (numbers (l ∷ m ∷ []))) → RightAt (Answers (tabled H rs) (after_records R) (ask s t)) report at (Ok (at + 7))
  led-right g = to {p = at + 7} (led h k) g (omega (arith, length-pair 131 l m))

  pub led-wrong : (Holds report at (field 131 (numbers (l ∷ m ∷ []))) → ⊥) → RightAt (Answers (tabled H rs) (after_records R) (ask s t)) report at (Err at)
  led-wrong g = wrong (λ x. let r = found report at x in g (rw (ask-field h k r.is) at r.holds)) refl

-- A place that is right by one measure is right by another that calls the same fields right.
pub right-same : {P Q : List ℕ → Type 0} {report : List ℕ} {at : ℕ} {a : Result ℕ ℕ} → ((f : List ℕ) → P f → Q f) → ((f : List ℕ) → Q f → P f) → RightAt P report at a → RightAt Q report at a
right-same i j (to {f = f} p h e) = to (i f p) h e
right-same i j (wrong n e) = wrong (λ x. n (stands-map j x)) e
