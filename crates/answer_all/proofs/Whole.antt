-- The pieces of a whole report: the columns are kept while the records are closed, and the totals close what the questions left.
-- Assumes nothing.
use Prim.Native.Nat.{ℕ, suc, ◌+◌, ◌-◌, ◌≤◌}
use native.Mathlib.Omega.{arith}
use mathlib.Core.Path.{◌≡◌, refl, sym, ◌∙◌, ap}
use mathlib.Core.Bool.{Bool}
use mathlib.Core.List.{List, [], ◌∷◌, ◌++◌}
use lib.ListN.{length, length-append}
use Rattle.meaning.proofs.Laws.{idles-most}
use Rattle.meaning.specs.Limits.{most_records}
use Rattle.job_field.specs.Items.{Head, records_of}
use Rattle.job_field.specs.Reading.{field_standing, units_stated, sheeted_in, head_in, items_in}
use Rattle.job_field.proofs.Standing.{edition-first}
use Rattle.table.specs.Map.{rec_at, records_in}
use Rattle.table.proofs.Frame.{length-gather, within-trans, within_wider}
use Rattle.table.proofs.Kept.{records-same}
use Rattle.table.specs.Places.{behind_columns}
use Rattle.all_close.specs.Closing.{Closing}
use Rattle.report.specs.Report.{numbers, field, total, laid}
use Rattle.profile.specs.Rules.{Rules, Laws}
use Rattle.report.proofs.Bytes.{length-field, length-numbers}
use Rattle.report.proofs.Laid.{length-laid, laid-front, laid_then}
use Rattle.answer_all.specs.Asking.{Asking, Told, Ready, Responded}

module _ {job room w : List ℕ} {N len : ℕ} (r : Ready job room w N len) {w₁ : List ℕ} {joins idle : ℕ} (c : Closing N len w w₁ joins idle) where
  records-after : records_in len w₁ ≡ records_of (items_in job)
  records-after = records-same c.kept len ∙ r.records

  -- U is read off the first field, and the edition off the first byte.
  head_read : (u : ℕ) (v : Bool) → u ≡ units_stated (field_standing job 0) → v ≡ sheeted_in job → head_in job ≡ record { size = N; units = u; sheeted = v }
  head_read u v e f =
      let z : u ≡ (head_in job).units = e ∙ ap units_stated r.stands.first in
      let y : v ≡ (head_in job).sheeted = f ∙ sym (edition-first job (head_in job) r.stands.first) in
      rw (z, y, ← r.size) refl

  pub asking-after : (u : ℕ) (v : Bool) → u ≡ units_stated (field_standing job 0) → v ≡ sheeted_in job → Asking job w₁ (record { size = N; units = u; sheeted = v }) len joins
  asking-after u v e f = record { stands = r.stands; head = head_read u v e f; short = r.short; few = r.few; records = records-after; past = c.past }

  pub idle-few : idle ≤ most_records
  idle-few = omega (arith, idles-most c.idles, length-gather (λ k. rec_at w₁ (suc k)) len, r.loaded.most)

  module _ {R : Rules} (laws : Laws R) {H : Head} {w₂ room₁ : List ℕ} {end : ℕ} (t : Told R job w₁ room H len joins w₂ room₁ end) where
    pub told-room : end + 7 ≤ length room₁
    told-room = omega (arith, ap length t.front, length-laid 0 t.bytes room (omega (arith, t.reached, t.fits)), t.fits)

    pub responded : (room₂ : List ℕ) → room₂ ≡ laid end (field 143 (numbers ((N - joins) ∷ idle ∷ []))) room₁ → Responded R job room w room₂ w₂ (end + 7)
    responded room₂ e =
        let body = numbers ((N - joins) ∷ idle ∷ []) in
        let f = field 143 body in
        let size : length f ≡ 7 = length-field 143 body ∙ rw (length-numbers ((N - joins) ∷ idle ∷ [])) (omega arith) in
        record {
          bytes = t.bytes ++ f;
          sound = t.sound f (laws.totals (total (rw (r.size, ← r.few, ← records-after) c.classes) (rw (← records-after) c.idles)));
          size = rw (length-append, size, t.reached);
          front = e ∙ laid_then 0 end t.bytes f room room₁ (omega (arith, t.reached, t.fits)) (omega (arith, t.reached)) t.front ∙ laid-front (t.bytes ++ f) room;
          kept = within-trans (within_wider behind_columns (omega arith) (omega arith) c.kept) (within_wider behind_columns (omega arith) (omega arith) t.kept);
        }
