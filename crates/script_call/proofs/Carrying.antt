-- From what was read and written to what the call promises. Assumes nothing.
use Prim.Native.Nat.{ℕ, ◌≤◌, ◌<◌}
use native.Mathlib.Omega.{arith}
use mathlib.Core.Path.{◌≡◌, refl}
use mathlib.Core.Bool.{Bool, true}
use mathlib.Core.List.{List, ◌++◌}
use lib.ListN.{length, take, drop}
use lib.Seq.{length-take-le}
use Rattle.std.specs.Prelude.{Ok, Err}
use Rattle.meaning.specs.Limits.{named_numbers, named_places}
use Rattle.table_labels.specs.Parts.{Fills}
use Rattle.call_look.proofs.Clearing.{cleared-part}
use Rattle.script_shelf.specs.Refusals.{fault_number}
use Rattle.script_shelf.specs.declared.Counts.{Counts}
use Rattle.script_shelf.specs.declared.refusal.Refusal.{Refusal as Unread}
use Rattle.script_shelf.proofs.Faults.{fault-range}
use Rattle.script_read.specs.Script.{ScriptRead}
use Rattle.script_write.specs.Writing.{JobAsk, Job, JobPut}
use Rattle.script_call.specs.Translating.{job_room, Converted, unread, done, Enough, Rested, read, Filled, Carried}

module _ {s w : List ℕ} where
  pub filled-refused : {e : Unread} → ScriptRead s w (Err e) → {room part : List ℕ} → Fills part 0 → Filled s room true (fault_number e.fault) e.place 0 room part
  filled-refused {e} R z = record { lent_is = refl; converted = unread (fault-range e.fault) R.out; zero = z }

  module _ {c : Counts} (R : ScriptRead s w (Ok c)) where
    pub job-asked : {room : List ℕ} → job_room ≤ length room → JobAsk w c room
    job-asked l = record { script = s; commands = R.out.value; read = R.out.is; whole = R.out.holds; long = l }

    pub filled-done : {room room' part : List ℕ} {to : ℕ} → JobPut w c room room' to → Fills part 0 → Filled s room true 0 0 to room' part
    filled-done {room} {room'} {to = to} J z = record { lent_is = refl; converted = made (J.put s R.out.value R.out.is R.out.holds); zero = z }
      where
        made : Job room room' to R.out.value → Converted s room 0 0 to room'
        made j = rw (j.size, j.is) (done R.out.is)

pub part-enough : {s room w : List ℕ} → Enough s room w → Enough s room (take named_numbers w)
part-enough {w = w} E = record { short = E.short; long = E.long; numbers = omega (arith, length-take-le named_numbers w E.numbers) }

pub carried-part : {s room w q : List ℕ} {b : Bool} {n p l : ℕ} {room' : List ℕ} → Enough s room w → length q ≡ length (take named_numbers w) → Filled s room b n p l room' q → Carried s room w b n p l room' (q ++ drop named_numbers w)
carried-part {w = w} {q = q} E e F = record { lent_is = F.lent_is; converted = F.converted; cleared = cleared-part w q E.numbers e F.zero }

pub rested-read : {s room : List ℕ} {places : ℕ} {work : List ℕ} {b : Bool} {n p l : ℕ} {room' work' : List ℕ} → Enough s room work → named_places ≤ places → Carried s room work b n p l room' work' → Rested s room places work b n p l room' work'
rested-read E h C = rw C.lent_is (read E h C.converted C.cleared)
