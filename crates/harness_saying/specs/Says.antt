-- Document 01, "The program", and document 02, No. 8: what the whole text says of a plain harness sheet, where so many bytes of room and numbers of the work table are lent. The
-- lines of an accepted sheet are those of its one sound report, a line a field (`lines_of`). Assumes nothing.
use Rattle.std.specs.Prelude.{ℕ, ◌≤◌, ◌<◌, ◌≡◌, List, [], ◌∷◌, length, Option, Some}
use Rattle.meaning.specs.Limits.{named_numbers}
use Rattle.job_field.specs.Items.{Head, Item, start, matter_of, refused, accepted, needed_room}
use Rattle.job_field.specs.Reading.{longest}
use Rattle.text_line.specs.Line.{line}
use Rattle.text.specs.Lines.{lines_of}
use Rattle.text.specs.Told.{Tells}
use Rattle.harness_read.specs.Profile.{harness_reading}
use Rattle.harness_report.specs.Report.{HarnessSound}

-- The number and the place by which the sheet is refused, in the order in which the checks run.
pub data HarnessRefuses (job : List ℕ) (room numbers : ℕ) : ℕ → ℕ → Type 0 where
  long : longest job < length job → HarnessRefuses job room numbers 1 0
  narrow : length job ≤ longest job → numbers < named_numbers → HarnessRefuses job room numbers 2 0
  unread : {n p : ℕ} → length job ≤ longest job → named_numbers ≤ numbers → harness_reading job ≡ refused n p → HarnessRefuses job room numbers n p
  cramped : {H : Head} {items : List Item} → length job ≤ longest job → named_numbers ≤ numbers → harness_reading job ≡ accepted H items → room < needed_room H start items → HarnessRefuses job room numbers 9 0

-- The lines of the sound report of an accepted sheet; or the single line `R number place`.
pub data HarnessSays (job : List ℕ) (room numbers : ℕ) : List ℕ → Type 0 where
  answers : {H : Head} {items : List Item} {bs : List ℕ} → length job ≤ longest job → named_numbers ≤ numbers → harness_reading job ≡ accepted H items → needed_room H start items ≤ room
      → HarnessSound (matter_of H items) start items bs → HarnessSays job room numbers (lines_of H.sheeted items bs)
  refuses : {n p : ℕ} → HarnessRefuses job room numbers n p → HarnessSays job room numbers (line 82 (n ∷ p ∷ []))

-- What is told is true of the sheet. A room of 60,000 bytes at most gives no text that 214,014 bytes do not hold.
pub record HarnessTrue (job room work out out' : List ℕ) (told : Option ℕ) : Type 0 where
  pub text : List ℕ
  pub says : HarnessSays job (length room) (length work) text
  pub tells : Tells text out out' told
  pub fits : length room ≤ 60000 → 214014 ≤ length out → told ≡ Some (length text)
