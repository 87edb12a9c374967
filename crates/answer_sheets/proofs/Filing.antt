-- A reason that stands in the list is no longer than the room that was counted for it, whatever stands before its numbers; its sheets can be filed, and its field and
-- theirs are laid as one.
-- Assumes nothing.
use Prim.Native.Nat.{ℕ, ◌+◌, ◌*◌, ◌-◌, ◌≤◌, min}
use native.Mathlib.Omega.{arith}
use mathlib.Core.Path.{◌≡◌, sym, ◌∙◌, ap}
use mathlib.Core.Bool.{true, false}
use mathlib.Core.List.{List, [], ◌++◌}
use lib.ListN.{length, length-append}
use Rattle.meaning.specs.Following.{Rec}
use Rattle.meaning.specs.Limits.{most_tags}
use Rattle.job_field.specs.Items.{Head, sheet_room, records_of}
use Rattle.job_field.specs.Reading.{head_in, items_in}
use Rattle.job_field.specs.Standing.{Job}
use Rattle.table.specs.Map.{list_of, list_in}
use Rattle.table.specs.Places.{Large}
use Rattle.table.proofs.Frame.{within-refl, length-gather}
use Rattle.report.specs.Report.{unfiled, filed, after_records, laid}
use Rattle.report.proofs.Laid.{length-laid, laid_none, laid_then}
use Rattle.sheets_field.specs.Field as sheets
use Rattle.profile.specs.Rules.{Rules, Laws}
use Rattle.answer_sheets.specs.Filing.{Fileable, FiledAt}

-- The room that was counted for the question has room for the sheets behind so many bytes of front and the reason.
pub filing-room : (H : Head) (before out n k : ℕ) (room room₁ : List ℕ) → n ≤ min before (2 * (H.size - 1)) → out + (k + 2 * min before (2 * (H.size - 1)) + sheet_room H (after_records before)) ≤ length room → length room₁ ≡ length room
    → H.sheeted ≡ true → out + k + 2 * n + 3 + 2 * n ≤ length room₁
filing-room H before out n k room room₁ few fits e t =
    let fits' : out + (k + 2 * min before (2 * (H.size - 1)) + (3 + 2 * min before (2 * (H.size - 1)))) ≤ length room = rw t at fits in
    omega arith

-- The two fields are laid as one.
pub behind-laid : (out n : ℕ) (f g room room₁ : List ℕ) {room₂ : List ℕ} → out + length f ≤ length room → n ≡ out + length f → room₁ ≡ laid out f room → room₂ ≡ laid n g room₁ → room₂ ≡ laid out (f ++ g) room
behind-laid out n f g room room₁ fits e h k = k ∙ laid_then out n f g room room₁ fits e h

pub behind-reached : (out n : ℕ) (f g : List ℕ) {end : ℕ} → n ≡ out + length f → end ≡ n + length g → end ≡ out + length (f ++ g)
behind-reached out n f g e h = omega (arith, length-append f g)

-- In edition 1 nothing is laid, and in edition 2 the field of the sheets.
module _ {job w room : List ℕ} {count out : ℕ} where
  pub unfiled-at : (head_in job).sheeted ≡ false → FiledAt job w room count out w room out
  unfiled-at e = record { field = []; right = unfiled e; front = sym (laid_none out room); reached = omega arith; kept = within-refl w }

  pub filed-at : {w' room' : List ℕ} {end : ℕ} → (head_in job).sheeted ≡ true → sheets.Laid job w w' room room' count out end → FiledAt job w room count out w' room' end
  filed-at e l = record { field = sheets.sheets_bytes l.sheets; right = filed e l.right; front = l.front; reached = l.reached; kept = l.kept }

-- What is known at a question that has a reason, with k bytes before its numbers.
pub record Filing (job room : List ℕ) (H : Head) (before out k : ℕ) : Type 0 where
  pub stands : Job job (head_in job) (items_in job)
  pub head : head_in job ≡ H
  pub small : H.size ≤ most_tags
  pub early : before ≤ length (records_of (items_in job))
  pub fits : out + (k + 2 * min before (2 * (H.size - 1)) + sheet_room H (after_records before)) ≤ length room

-- By the rules of any profile.
module _ {R : Rules} (laws : Laws R) {job room : List ℕ} {H : Head} {before out k : ℕ} (F : Filing job room H before out k) {rs : List Rec} {s t : ℕ} (n : ℕ) (w : List ℕ) (r : R.IsReason H.size rs before s t (list_in n w)) where
  least : n ≤ min before (2 * (H.size - 1))
  least = let l = laws.few r in omega (arith, l, length-gather (list_of w) n)

  pub few : n ≤ 2 * 1000
  few = omega (arith, least, F.small)

  pub fits : out + k + 2 * n ≤ length room
  fits = omega (arith, least, F.fits)

  module _ (f room₁ : List ℕ) (size : length f ≡ k + 2 * n) (e : room₁ ≡ laid out f room) where
    room-length : length room₁ ≡ length room
    room-length = ap length e ∙ length-laid out f room (omega (arith, fits))

    pub fileable : Large w → Fileable job w room₁ H.sheeted n (out + k + 2 * n)
    fileable l = record {
      listed = record { stands = F.stands; long = l; few = omega (arith, least, F.small); rising = laws.rising r; there = λ j i. let u = laws.stand r j i in omega (arith, u, F.early) };
      edition = ap (λ (h : Head). h.sheeted) F.head;
      fits = filing-room H before out n k room room₁ least F.fits room-length;
    }

    module _ {w₂ room₂ : List ℕ} {end : ℕ} (x : FiledAt job w room₁ n (out + k + 2 * n) w₂ room₂ end) where
      pub filed-front : room₂ ≡ laid out (f ++ x.field) room
      filed-front = behind-laid out (out + k + 2 * n) f x.field room room₁ (omega (arith, fits)) (omega arith) e x.front

      pub filed-reached : end ≡ out + length (f ++ x.field)
      filed-reached = behind-reached out (out + k + 2 * n) f x.field (omega arith) x.reached
