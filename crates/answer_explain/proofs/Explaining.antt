-- What explain leaves in the list is a reason, and its sheets go behind it; or the equality does not follow.
-- Assumes nothing.
use Prim.Native.Nat.{ℕ, ◌+◌, ◌*◌}
use native.Mathlib.Omega.{arith}
use mathlib.Core.Path.{◌≡◌, sym}
use mathlib.Core.List.{List, [], ◌++◌}
use lib.ListN.{length}
use Rattle.meaning.specs.Following.{Follows, UpTo}
use Rattle.job_field.specs.Items.{Head, Moment}
use Rattle.job_field.specs.Reading.{matter_in}
use Rattle.table.specs.Map.{list_of, list_in, records_in, Within}
use Rattle.table.specs.Places.{scratch}
use Rattle.table.proofs.Frame.{length-gather, within-trans}
use Rattle.report.specs.Report.{numbers, field, Known, laid}
use Rattle.report.proofs.Bytes.{length-field, length-numbers}
use Rattle.answer_sheets.specs.Filing.{FiledAt}
use Rattle.profile.specs.Rules.{Rules, Laws}
use Rattle.profile.proofs.Known.{because-known, apart-known}
use Rattle.answer_sheets.proofs.Filing.{Filing, filed-front, filed-reached}
use Rattle.answer_explain.specs.Explaining.{Explaining, Explained}

-- The field of a reason.
abbrev pub because_bytes : ℕ → List ℕ → List ℕ
because_bytes n w = field 132 (numbers (list_in n w))

pub because-size : (n : ℕ) (w : List ℕ) → length (because_bytes n w) ≡ 3 + 2 * n
because-size n w = omega (arith, length-field 132 (numbers (list_in n w)), length-numbers (list_in n w), length-gather (list_of w) n)

module _ {job w room : List ℕ} {H : Head} {len joins before out s t : ℕ} (E : Explaining job w room H len joins before out s t) where
  pub explain-filing : Filing job room H before out 3
  explain-filing = record { stands = E.stands; head = E.head; small = E.facing.past.loaded.few; early = omega (arith, E.facing.passed, E.few); fits = E.facing.fits }

module _ {R : Rules} (laws : Laws R) {job w room : List ℕ} {H : Head} {len joins before out s t : ℕ} (E : Explaining job w room H len joins before out s t) where
  known : (b : Moment) → b.records ≡ before → Known (matter_in job) b H (records_in len w) before
  known b e = record { head = E.head; records = sym E.records; before = e }

  pub apart-told : {w' room' : List ℕ} → (Follows (UpTo (records_in len w) before) s t → ⊥) → Within scratch w w' → room' ≡ laid out (field 133 []) room → Explained R job w room before out s t w' room' (out + 3)
  apart-told n k f = record { field = field 133 []; right = λ b e. apart-known laws (known b e) n; front = f; reached = omega (arith, length-field 133 []); kept = k }

  pub because-told : (n : ℕ) (w₁ : List ℕ) → R.IsReason H.size (records_in len w) before s t (list_in n w₁) → (room₁ : List ℕ) → room₁ ≡ laid out (because_bytes n w₁) room → {w₂ room₂ : List ℕ} {end : ℕ} → Within scratch w w₁
      → FiledAt job w₁ room₁ n (out + 3 + 2 * n) w₂ room₂ end → Explained R job w room before out s t w₂ room₂ end
  because-told n w₁ r room₁ e k x = record {
    field = because_bytes n w₁ ++ x.field;
    right = λ b i. laws.reasoned (because-known laws (known b i) r) x.right;
    front = filed-front laws (explain-filing E) n w₁ r (because_bytes n w₁) room₁ (because-size n w₁) e x;
    reached = filed-reached laws (explain-filing E) n w₁ r (because_bytes n w₁) room₁ (because-size n w₁) e x;
    kept = within-trans k x.kept;
  }
