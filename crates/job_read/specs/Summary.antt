-- What the answer of the code says in document 01's words: the number and the place of a refusal, and what is known of a job that is accepted.
-- Assumes nothing.
use Rattle.std.specs.Prelude.{ℕ, length, Result, Ok, Err}
use Rattle.job_field.specs.Items.{Head, start, Reading, refused, accepted, records_of, questions_of, needed_room}
use Rattle.job_field.specs.Answer.{number_of, head_said}
use Rattle.job_read.specs.declared.Accepted.{Accepted}
use Rattle.job_read.specs.declared.Refusal.{Refusal}

-- What a whole reading comes to: a refusal's number and place; or what the first field says, the number of records, the number of questions and the needed
-- room.
pub data Summary : Type 0 where
  refusal : ℕ → ℕ → Summary
  acceptance : Head → ℕ → ℕ → ℕ → Summary

abbrev pub summary : Reading → Summary
summary (refused n p) = refusal n p
summary (accepted H is) = acceptance H (length (records_of is)) (questions_of is) (needed_room H start is)

-- The summary of what the code answers, by document 01's numbers.
abbrev pub told : Result Accepted Refusal → Summary
told (Ok a) = acceptance (head_said a.head) a.records a.questions a.room
told (Err e) = refusal (number_of e.fault) e.place
