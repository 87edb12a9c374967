-- What a test of a field leaves of it.
-- Assumes nothing.
use Rattle.std.specs.Prelude.{Result, Ok, Err}
use Rattle.job_field.specs.Answer.{number_of}
use Rattle.job_field.specs.Reading.{Field, bad}
use Rattle.job_field.specs.declared.Fault.{Fault}

-- The field where the test held, and else the refusal by its number.
abbrev pub passed : {A : Type 0} → Result A Fault → Field → Field
passed (Ok u) f = f
passed (Err e) f = bad (number_of e)
