-- The walk over an accepted job and its report: what stands at a field's place is the item that comes next, so that each turn puts
-- what the definition puts.
-- Assumes nothing.
use Prim.Native.Nat.{ℕ, ◌+◌, ◌≤◌, ◌<◌, min}
use native.Mathlib.Omega.{arith}
use mathlib.Core.Path.{◌≡◌, sym, ◌∙◌, ap}
use mathlib.Core.Bool.{Bool}
use mathlib.Core.List.{List, append-nil}
use lib.ListN.{length, drop}
use lib.Seq.{drop-drop}
use Rattle.job_field.specs.Items.{Head, Item, Reading, accepted, head_of}
use Rattle.job_field.specs.Reading.{behind_at, field_standing, reading, head_in, sheeted_in}
use Rattle.job_field.specs.Standing.{Stands, ends, next}
use Rattle.job_field.proofs.Standing.{accepted-stands, edition-first}
use Rattle.text_field.proofs.Parts.{drop_min}
use Rattle.text_field.specs.Fields.{line_of, width_of, totals_line, text_at, width_at}
use Rattle.text.specs.Lines.{lines_of}
use Rattle.text_line.specs.Put.{Put, Half}
use Rattle.text_line.proofs.Puts.{half-more, half-done, half-as}

-- The edition that the first byte tells is that of the first field.
pub edition-read : (job : List ℕ) {H : Head} {items : List Item} {v : Bool} → reading job ≡ accepted H items → v ≡ sheeted_in job → v ≡ (head_in job).sheeted
edition-read job {H} {items} e h = h ∙ sym (edition-first job H (accepted-stands job H items e).first) ∙ sym (ap (λ (r : Reading). (head_of r).sheeted) e)

-- At a place of the job items stand, and their lines in the job's edition are still to be put; or the job has ended, and the text is whole.
pub data Walked (v : Bool) (job report text room : List ℕ) (at from : ℕ) (room' : List ℕ) (place : ℕ) : Type 0 where
  underway : {N : ℕ} {items : List Item} → Stands job N at items → Half text (lines_of v items (drop from report)) room 0 room' place → Walked v job report text room at from room' place
  finished : length job ≤ at → Put text room 0 room' place → Walked v job report text room at from room' place

module _ (v : Bool) (job report text room : List ℕ) (at from : ℕ) where
  pub walk-on : (room' room'' : List ℕ) (place place' : ℕ) → Walked v job report text room at from room' place → at < length job
      → Put (text_at v (field_standing job at) (drop from report)) room' place room'' place'
      → Walked v job report text room (behind_at job at) (from + min (width_at v (field_standing job at) (drop from report)) (length (drop from report))) room'' place'
  unfolding lines_of
  walk-on room' room'' place place' (underway (ends e l) h) k p =
      rw e (finished (omega arith) (half-done (half-more (half-as (sym (append-nil (totals_line (drop from report)))) h) (rw e at p))))
  walk-on room' room'' place place' (underway (next {i = i} {is = is} e t f l s) h) k p =
      let rest : List ℕ = drop from report in
      let q : drop (width_of v i rest) rest ≡ drop (from + min (width_of v i rest) (length rest)) report = sym (drop_min (width_of v i rest) rest) ∙ drop-drop (min (width_of v i rest) (length rest)) from report in
      rw e (underway s (half-as (ap (lines_of v is) q) (half-more {s = line_of v i rest} h (rw e at p))))
  walk-on room' room'' place place' (finished l q) k p = absurd (omega arith)
