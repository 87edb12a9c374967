-- What the code answers, in the documents' words: the number and the place of a refusal, the length or the count of an answer, and what is seen of a job.
-- Assumes nothing.
use Rattle.std.specs.Prelude.{ℕ, Bool, true, false, Result, Ok, Err}
use Rattle.job_field.specs.Answer.{number_of as fault_number}
use Rattle.job_read.specs.declared.Refusal.{Refusal as Unread}
use Rattle.call_look.specs.declared.Reason.{Reason}
use Rattle.call_look.specs.declared.Reason.TheVariants as r
use Rattle.call_look.specs.declared.Refusal.{Refusal}
use Rattle.call_look.specs.declared.Sight.{Sight}

-- The documents' number of each reason.
abbrev pub reason_number : Reason → ℕ
reason_number r.JobTooLong = 1
reason_number r.TablesTooShort = 2
reason_number (r.Job f) = fault_number f
reason_number r.RoomTooShort = 9
reason_number r.ReportUnsound = 10
reason_number r.LimitSpent = 19

-- A refusal that names no place.
abbrev pub refusal_of : Reason → Refusal
refusal_of e = record { reason = e; place = 0 }

-- What the reading refuses.
abbrev pub unread_of : Unread → Refusal
unread_of u = record { reason = r.Job u.fault; place = u.place }

-- The number that a call answers, 0 where it is no refusal, and its place, which is 0 there too.
abbrev pub number_of : {A : Type 0} → Result A Refusal → ℕ
number_of (Ok a) = 0
number_of (Err e) = reason_number e.reason

abbrev pub place_of : {A : Type 0} → Result A Refusal → ℕ
place_of (Ok a) = 0
place_of (Err e) = e.place

-- The length of a report, or how many passes were made: 0 for a refusal.
abbrev pub length_of : Result ℕ Refusal → ℕ
length_of (Ok n) = n
length_of (Err e) = 0

-- Neither the job nor a table is at fault by its length: then both tables are given back cleared.
abbrev pub reason_lent : Reason → Bool
reason_lent r.JobTooLong = false
reason_lent r.TablesTooShort = false
reason_lent (r.Job f) = true
reason_lent r.RoomTooShort = true
reason_lent r.ReportUnsound = true
reason_lent r.LimitSpent = true

-- What is known of a job: whether the lengths are right, without which no table is touched; whether the call may go on, or the refusal; N, the number of records, and the
-- room that the report needs. The last three are 0 for a refusal.
pub record Seen : Type 0 where
  pub lent : Bool
  pub ready : Bool
  pub number : ℕ
  pub place : ℕ
  pub size : ℕ
  pub records : ℕ
  pub needed : ℕ

-- An accepted job of N tags and k records, whose report needs m bytes.
abbrev pub counting : ℕ → ℕ → ℕ → Seen
counting N k m = record { lent = true; ready = true; number = 0; place = 0; size = N; records = k; needed = m }

abbrev pub seen : Result Sight Refusal → Seen
seen (Ok s) = counting s.size s.records s.needed
seen (Err e) = record { lent = reason_lent e.reason; ready = false; number = reason_number e.reason; place = e.place; size = 0; records = 0; needed = 0 }
