-- An answer by its parts, as document 02, No. 4 and document 01 tell them: whether the lengths were right, without which nothing lent changes; the number of a refusal, or 0; its
-- place, or 0; the length of the job, or 0. Assumes nothing.
use Rattle.std.specs.Prelude.{ℕ, Bool, true, false, Result, Ok, Err}
use Rattle.script_shelf.specs.Refusals.{fault_number}
use Rattle.script_call.specs.declared.refusal.Reason.{Reason}
use Rattle.script_call.specs.declared.refusal.Reason.TheVariants.{ScriptTooLong, LoanTooShort, Script}
use Rattle.script_call.specs.declared.refusal.Refusal.{Refusal}

abbrev pub reason_number : Reason → ℕ
reason_number ScriptTooLong = 1
reason_number LoanTooShort = 2
reason_number (Script f) = fault_number f

abbrev pub reason_lent : Reason → Bool
reason_lent ScriptTooLong = false
reason_lent LoanTooShort = false
reason_lent (Script f) = true

abbrev pub lent_of : Result ℕ Refusal → Bool
lent_of (Ok n) = true
lent_of (Err e) = reason_lent e.reason

abbrev pub number_of : Result ℕ Refusal → ℕ
number_of (Ok n) = 0
number_of (Err e) = reason_number e.reason

abbrev pub place_of : Result ℕ Refusal → ℕ
place_of (Ok n) = 0
place_of (Err e) = e.place

abbrev pub length_of : Result ℕ Refusal → ℕ
length_of (Ok n) = n
length_of (Err e) = 0
