-- Document 02, No. 4: "Promise: two declared constants follow equal in the job exactly when they are equal in every congruence on the script's terms that holds its equations",
-- for every script that the call accepts; and the job that it writes is always accepted by the reading. Assumes nothing.
use Prim.Native.Nat.{ℕ}
use native.Mathlib.Omega.{arith}
use mathlib.Core.Path.{◌≡◌, refl}
use mathlib.Core.Bool.{Bool}
use mathlib.Core.List.{List, ◌++◌}
use lib.ListN.{length, drop}
use Rattle.records.specs.declared.Record.{Record}
use Rattle.job_field.specs.Items.{accepted}
use Rattle.job_field.specs.Reading.{reading as job-reading}
use Rattle.script_terms.specs.Terms.{Command, arities_of, Built}
use Rattle.script_terms.specs.Promise.{Promised}
use Rattle.script_meaning.specs.Reading.{got, reading}
use Rattle.script_meaning.specs.Bytes.{job_of}
use Rattle.script_meaning.proofs.Said.{reading-promise}
use Rattle.script_call.specs.Translating.{Converted, unread, done}
use Rattle.script_written.specs.Written.{head_for, items_for}
use Rattle.script_written.proofs.Written.{written-reads}
use Rattle.haltzurme_script.specs.Translated.{Translated, long, narrow, read}

-- What an answer of 0 tells of the bytes that it left.
pub record Kept (script room : List ℕ) (l : ℕ) (room' : List ℕ) : Type 1 where
  pub commands : List Command
  pub says : reading script ≡ got commands
  pub size : l ≡ length (job_of commands)
  pub bytes : room' ≡ job_of commands ++ drop (length (job_of commands)) room
  pub reads : job-reading (job_of commands) ≡ accepted (head_for commands) (items_for commands)
  pub promise : Promised (Built (arities_of commands)) commands

kept_of : {script room : List ℕ} {n p l : ℕ} {room' : List ℕ} → Converted script room n p l room' → n ≡ 0 → Kept script room l room'
kept_of (unread h e) z = absurd (let k = h.0 in omega arith)
kept_of {script} (done {cs = cs} e) z = record { commands = cs; says = e; size = refl; bytes = refl; reads = written-reads script e; promise = reading-promise script e }

pub translated-promise : {script room : List ℕ} {records : List Record} {work : List ℕ} {b : Bool} {n p l : ℕ} {room' : List ℕ} {records' : List Record} {work' : List ℕ}
    → Translated script room records work b n p l room' records' work' → n ≡ 0 → Kept script room l room'
translated-promise (long h) z = absurd (omega arith)
translated-promise (narrow h x) z = absurd (omega arith)
translated-promise (read E h c m) z = kept_of c z
