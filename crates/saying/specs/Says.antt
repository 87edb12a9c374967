-- Document 01, "The program": what the whole text says of a job, where so many bytes of room and numbers of the work table are lent.
-- Assumes nothing.
use Rattle.std.specs.Prelude.{ℕ, ◌≤◌, ◌<◌, ◌≡◌, List, [], ◌∷◌, length, Option, Some}
use Rattle.meaning.specs.Limits.{named_numbers}
use Rattle.job_field.specs.Items.{Head, Item, start, matter_of, refused, accepted, needed_room}
use Rattle.job_field.specs.Reading.{reading, longest}
use Rattle.text_line.specs.Line.{line}
use Rattle.text.specs.Told.{Tells}
use Rattle.saying.specs.Meant.{Meant}

-- The number and the place by which the job is refused, in the order in which the checks run.
pub data Refuses (job : List ℕ) (room numbers : ℕ) : ℕ → ℕ → Type 0 where
  long : longest job < length job → Refuses job room numbers 1 0
  narrow : length job ≤ longest job → numbers < named_numbers → Refuses job room numbers 2 0
  unread : {n p : ℕ} → length job ≤ longest job → named_numbers ≤ numbers → reading job ≡ refused n p → Refuses job room numbers n p
  cramped : {H : Head} {items : List Item} → length job ≤ longest job → named_numbers ≤ numbers → reading job ≡ accepted H items → room < needed_room H start items → Refuses job room numbers 9 0

-- One line an item of an accepted job; or the single line `R number place`.
pub data Says (job : List ℕ) (room numbers : ℕ) : List ℕ → Type 0 where
  answers : {H : Head} {items : List Item} {text : List ℕ} → length job ≤ longest job → named_numbers ≤ numbers → reading job ≡ accepted H items → needed_room H start items ≤ room
      → Meant (matter_of H items) start items text → Says job room numbers text
  refuses : {n p : ℕ} → Refuses job room numbers n p → Says job room numbers (line 82 (n ∷ p ∷ []))

-- What is told is true of the job. A room of 60,000 bytes at most gives no text that 214,014 bytes do not hold.
pub record True (job room work out out' : List ℕ) (told : Option ℕ) : Type 0 where
  pub text : List ℕ
  pub says : Says job (length room) (length work) text
  pub tells : Tells text out out' told
  pub fits : length room ≤ 60000 → 214014 ≤ length out → told ≡ Some (length text)
