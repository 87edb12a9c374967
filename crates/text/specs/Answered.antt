-- Document 01, "The program": what is written for an answer of the run, which has a number, a place and a length and has left its report at the
-- front of the room.
-- Assumes nothing.
use Rattle.std.specs.Prelude.{ℕ, ◌≤◌, ◌≡◌, cond, List, eqb, length, take, Option, Some}
use Rattle.job_field.specs.Reading.{reading}
use Rattle.text.specs.Lines.{text_of, refusal_line}
use Rattle.text.specs.Told.{Tells, Accepted}

-- The lines of the job and of its report where the number is 0; else the single line `R number place`.
unfoldable pub answer_text : List ℕ → List ℕ → ℕ → ℕ → ℕ → List ℕ
answer_text job room number place size = cond (eqb number 0) (text_of (reading job) (take size room)) (refusal_line number place)

-- The text is told. A run lends 60,000 bytes of room and answers 0 for accepted jobs only, and then 214,014 bytes hold every text.
pub record Answered (job room : List ℕ) (number place size : ℕ) (out out' : List ℕ) (told : Option ℕ) : Type 0 where
  pub tells : Tells (answer_text job room number place size) out out' told
  pub fits : (number ≡ 0 → Accepted job) → length room ≤ 60000 → 214014 ≤ length out → told ≡ Some (length (answer_text job room number place size))
