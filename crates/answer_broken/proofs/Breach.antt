-- The earliest broken pair is equal by the records before the question, so that there is a reason; its number and the reason, with its sheets, are a right answer.
-- Assumes nothing.
use Prim.Native.Nat.{ℕ, suc, ◌+◌, ◌*◌, ◌≤◌}
use native.Mathlib.Omega.{arith}
use mathlib.Core.Path.{◌≡◌, ap}
use mathlib.Core.List.{List, [], ◌∷◌, ◌++◌}
use lib.ListN.{length}
use Rattle.job_field.specs.Items.{Head, records_of, pairs_of, broken, room_for}
use Rattle.job_field.specs.Reading.{items_in}
use Rattle.table.specs.Map.{list_of, list_in, rec_at, records_in, Within}
use Rattle.table.specs.Places.{scratch}
use Rattle.table.proofs.Frame.{within-refl, within-trans, length-gather}
use Rattle.report.specs.Broken.{Earliest, Unbroken}
use Rattle.report.specs.Report.{numbers, field, after_records, laid}
use Rattle.report.proofs.Bytes.{length-field, length-numbers}
use Rattle.answer_sheets.specs.Filing.{FiledAt}
use Rattle.pairs.specs.declared.Differing.{Differing}
use Rattle.pairs.specs.Found.{Found}
use Rattle.pairs.specs.Breaking.{Breaking}
use Rattle.pairs.proofs.Breaking.{breaking-few}
use Rattle.profile.specs.Rules.{Rules, Laws}
use Rattle.answer_sheets.proofs.Filing.{Filing, filed-front, filed-reached}
use Rattle.answer_broken.specs.Breach.{Broke, Breached, Replied}

-- The field of a broken pair.
abbrev pub breach_bytes : ℕ → ℕ → List ℕ → List ℕ
breach_bytes k n w = field 134 (numbers (k ∷ list_in n w))

pub breach-size : (k n : ℕ) (w : List ℕ) → length (breach_bytes k n w) ≡ 5 + 2 * n
breach-size k n w = omega (arith, length-field 134 (numbers (k ∷ list_in n w)), length-numbers (k ∷ list_in n w), length-gather (list_of w) n)

module _ {job w room : List ℕ} {H : Head} {len joins before out k s t : ℕ} (B : Broke job w room H len joins before out k s t) where
  pub breach-filing : Filing job room H before out 5
  breach-filing = record { stands = B.stands; head = B.head; small = B.past.loaded.few; early = B.early; fits = B.fits }

module _ {R : Rules} (laws : Laws R) {job w room : List ℕ} {H : Head} {len joins before out k s t : ℕ} (B : Broke job w room H len joins before out k s t) where
  pub breach-told : (n : ℕ) (w₁ : List ℕ) → R.IsReason H.size (records_in len w) before s t (list_in n w₁) → (room₁ : List ℕ) → room₁ ≡ laid out (breach_bytes k n w₁) room → {w₂ room₂ : List ℕ} {end : ℕ} → Within scratch w w₁
      → FiledAt job w₁ room₁ n (out + 5 + 2 * n) w₂ room₂ end → Breached R job w room H.size len before out k s t w₂ room₂ end
  breach-told n w₁ r room₁ e g x = record {
    list = list_in n w₁;
    reason = r;
    sheets = x.field;
    filed = x.right;
    front = filed-front laws (breach-filing B) n w₁ r (breach_bytes k n w₁) room₁ (breach-size k n w₁) e x;
    reached = filed-reached laws (breach-filing B) n w₁ r (breach_bytes k n w₁) room₁ (breach-size k n w₁) e x;
    kept = within-trans g x.kept;
  }

module _ {job w room : List ℕ} {H : Head} {len joins before differs out : ℕ} (B : Breaking job w H len joins before differs) {k : ℕ} {p : Differing} (e : Earliest (records_of (items_in job)) before (pairs_of (items_in job)) differs k) (f : Found job k p) where
  pub broke-there : out + room_for H (after_records before) broken ≤ length room → Broke job w room H len joins before out k p.s.0 p.t.0
  broke-there h = record {
    stands = B.stands;
    head = B.head;
    records = B.records;
    early = omega (arith, B.passed, ap length B.records, length-gather (λ i. rec_at w (suc i)) len);
    past = B.past;
    passed = B.passed;
    from = rw B.head at f.from;
    to = rw B.head at f.to;
    number = omega (arith, e.before, breaking-few B);
    equal = rw B.records (rw f.is at e.broken);
    fits = h;
  }

module _ {R : Rules} (laws : Laws R) {job w room : List ℕ} {H : Head} {len joins before differs out : ℕ} (B : Breaking job w H len joins before differs) where
  module _ {k : ℕ} {p : Differing} (e : Earliest (records_of (items_in job)) before (pairs_of (items_in job)) differs k) (f : Found job k p) where
    pub breach-replied : {w' room' : List ℕ} {end : ℕ} → Breached R job w room H.size len before out k p.s.0 p.t.0 w' room' end → Replied R job w room before differs out broken w' room' end
    breach-replied b = record {
      field = field 134 (numbers (k ∷ b.list)) ++ b.sheets;
      right = λ m x y. laws.reasoned (laws.breached {k = k} {L = b.list} (rw (x, y) e) (rw (x, B.head, f.is) (rw B.records at b.reason))) b.filed;
      front = b.front;
      reached = b.reached;
      kept = b.kept;
    }

  pub intact-replied : {room' : List ℕ} → Unbroken (records_of (items_in job)) before (pairs_of (items_in job)) differs → room' ≡ laid out (field 135 []) room → Replied R job w room before differs out broken w room' (out + 3)
  intact-replied u h = record {
    field = field 135 [];
    right = λ m x y. laws.intact (rw (x, y) u);
    front = h;
    reached = omega (arith, length-field 135 []);
    kept = within-refl w;
  }
