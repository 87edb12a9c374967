-- The numbers of a reason are read off the report, and what stands behind them is their sheets or is not.
-- Assumes nothing.
use Prim.Native.Nat.{ℕ, ◌+◌, ◌*◌, ◌-◌, ◌/◌, ◌≤◌}
use native.Mathlib.Omega.{arith}
use mathlib.Core.Path.{◌≡◌, refl, sym, ◌∙◌, subst}
use mathlib.Core.Bool.{true, false}
use mathlib.Core.List.{List, Memᴰ}
use lib.ListN.{length}
use Rattle.meaning.specs.Reasons.{Above}
use Rattle.job_field.specs.Items.{sheets_of, records_of}
use Rattle.job_field.specs.Reading.{head_in, items_in, matter_in}
use Rattle.table.specs.Map.{list_of, list_in, Within}
use Rattle.table.specs.Places.{scratch}
use Rattle.table.proofs.Frame.{within-refl, within-trans, within_wider, length-gather}
use Rattle.report.specs.Sheets.{Sheets}
use Rattle.report.specs.Report.{numbers, Filed, unfiled, filed}
use Rattle.report.proofs.Bytes.{length-numbers, numbers-one}
use Rattle.std.proofs.Common.{None, Some}
use Rattle.report_read.specs.Read.{Holds}
use Rattle.report_read.proofs.Read.{holds-one, holds-none}
use Rattle.report_numbers.specs.Read.{ListRead}
use Rattle.sheets_walk.specs.Walk.{Listed}
use Rattle.sheets_field.specs.Field as sheets
use Rattle.std.specs.Prelude.{Result, Ok, Err}
use Rattle.answer_ask.proofs.Right.{found}
use Rattle.judge_sheets.specs.Behind.{Behind, Filing, stood, missing, Sheeted, Turned}

module _ {job report w : List ℕ} {from end : ℕ} (B : Behind job report w from end) where
  pub count-is : (end - from) / 2 ≡ length B.list
  count-is = omega (arith, B.all)

  pub read-room : from + 2 * ((end - from) / 2) ≤ length report
  read-room = omega (arith, B.all, B.within)

  -- The list that was read is the only one that the bytes say.
  module _ {w₁ : List ℕ} (r : ListRead report from ((end - from) / 2) w w₁) where
    abbrev listed : List ℕ
    listed = list_in ((end - from) / 2) w₁

    length-listed : length listed ≡ (end - from) / 2
    length-listed = length-gather (list_of w₁) ((end - from) / 2)

    list-is : (L : List ℕ) → from + 2 * length L ≡ end → Holds report from (numbers L) → listed ≡ L
    list-is L e h = numbers-one listed L (holds-one report from (numbers listed) (numbers L) (omega (arith, length-numbers listed, length-numbers L, length-listed)) r.read h)

    same : listed ≡ B.list
    same = list-is B.list B.all B.holds

    wide : Within scratch w w₁
    wide = within_wider scratch (omega arith) (omega arith) r.kept

    pub listed-there : Listed job w₁ ((end - from) / 2)
    listed-there = record {
      stands = B.stands;
      long = omega (arith, B.long, r.kept.size);
      few = omega (arith, B.few, B.all);
      rising = subst (λ (l : List ℕ). Above 0 l) (sym same) B.rising;
      there = subst (λ (l : List ℕ). (k : ℕ) → Memᴰ k l → k ≤ length (records_of (items_in job))) (sym same) B.there;
    }

    module _ (t : (head_in job).sheeted ≡ true) {w₂ : List ℕ} where
      pub sheets-missing : sheets.Seen job w₁ w₂ report ((end - from) / 2) end None → Sheeted job report w w₂ from end (Err end)
      sheets-missing s = record { kept = within-trans wide s.kept; right = λ L e h. missing (λ x. none L (list-is L e h) (found report end x).is (found report end x).holds) refl }
        where
          none : (L : List ℕ) → listed ≡ L → {g : List ℕ} → Filed (matter_in job) L g → Holds report end g → ⊥
          none L i (unfiled u) h = let y : ◌≡◌ {A = ℕ} 0 1 = cc in omega arith
          none L i (filed {hs = hs} u v) h = s.stands hs (subst (λ (l : List ℕ). Sheets (sheets_of (items_in job)) l hs) (sym i) v) h

      pub sheets-there : (p : ℕ) → sheets.Seen job w₁ w₂ report ((end - from) / 2) end (Some p) → Sheeted job report w w₂ from end (Ok p)
      sheets-there p s = record { kept = within-trans wide s.kept; right = λ L e h. some L (list-is L e h) }
        where
          some : (L : List ℕ) → listed ≡ L → Filing job report L end (Ok p)
          some L i = stood (filed t (subst (λ (l : List ℕ). Sheets (sheets_of (items_in job)) l s.stands.0) i s.stands.1)) s.stands.2 s.stands.3

-- What a reason that was found, or none, leads to.
module _ {job report w : List ℕ} {from : ℕ} where
  pub turned-filed : {w' : List ℕ} {end : ℕ} {found answer : Result ℕ ℕ} → found ≡ Ok end → Sheeted job report w w' from end answer → Turned job report w w' from found answer
  turned-filed {w'} {end} {found} {answer} e s = record {
    kept = s.kept;
    none = λ p z. let y : ◌≡◌ {A = ℕ} 0 1 = cc in absurd (omega arith);
    some = λ end' z L h k. let q : end ≡ end' = cc in subst (λ (n : ℕ). Filing job report L n answer) q (s.right L (h ∙ sym q) k);
  }

  -- In edition 1 nothing belongs there.
  pub turned-bare : {end : ℕ} {found : Result ℕ ℕ} → (head_in job).sheeted ≡ false → found ≡ Ok end → Turned job report w w from found (Ok end)
  turned-bare {end} u e = turned-filed e (record { kept = within-refl w; right = λ L h k. stood {p = end} (unfiled u) (holds-none report end) (omega arith) })

  pub turned_none : {p : ℕ} {found answer : Result ℕ ℕ} → found ≡ Err p → answer ≡ Err p → Turned job report w w from found answer
  turned_none e i = record {
    kept = within-refl w;
    none = λ p' z. i ∙ sym e ∙ z;
    some = λ end z L h k. let y : ◌≡◌ {A = ℕ} 0 1 = cc in absurd (omega arith);
  }

  -- Where a reason was found, its sheets were looked for.
  pub turned-sheeted : {w' : List ℕ} {end : ℕ} {answer : Result ℕ ℕ} → Turned job report w w' from (Ok end) answer → Sheeted job report w w' from end answer
  turned-sheeted {w'} {end} t = record { kept = t.kept; right = t.some end refl }
