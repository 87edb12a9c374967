use native.Mathlib.Omega.{arith}
use mathlib.Core.Logic.{inl, inr}
use Rattle.script_call.specs.Translating.{long, narrow}
use Rattle.script_call.proofs.Carrying.{rested-read}
use Rattle.script_call.proofs.translate_beside.Goals.{then-room-lt-JOB_ROOM-via-then-room-lt-JOB_ROOM, then-room-lt-JOB_ROOM-via-else-room-lt-JOB_ROOM+then-places-lt-PLACES, then-room-lt-JOB_ROOM-via-else-room-lt-JOB_ROOM+else-places-lt-PLACES+then-work-lt-NAMED}
use Rattle.script_call.proofs.translate_beside.Goals as goal

pub returns-then-script-gt-LONGEST_SCRIPT : goal.returns-then-script-gt-LONGEST_SCRIPT
returns-then-script-gt-LONGEST_SCRIPT c = long c.if-script-gt-LONGEST_SCRIPT.true

pub returns-then-room-lt-JOB_ROOM : goal.returns-then-room-lt-JOB_ROOM
returns-then-room-lt-JOB_ROOM c =
    elim c.then-room-lt-JOB_ROOM.branch [
      | then-room-lt-JOB_ROOM-via-then-room-lt-JOB_ROOM w ↦ narrow (omega arith) (inl w.if-room-lt-JOB_ROOM.true)
      | then-room-lt-JOB_ROOM-via-else-room-lt-JOB_ROOM+then-places-lt-PLACES w ↦ narrow (omega arith) (inr (inl w.if-places-lt-PLACES.true))
      | then-room-lt-JOB_ROOM-via-else-room-lt-JOB_ROOM+else-places-lt-PLACES+then-work-lt-NAMED w ↦ narrow (omega arith) (inr (inr w.if-work-lt-NAMED.true))
    ]

pub carry-requires : goal.carry-requires
carry-requires c = record { short = omega arith; long = omega arith; numbers = omega arith }

pub returns : goal.returns
returns c = rested-read (record { short = omega arith; long = omega arith; numbers = omega arith }) (omega arith) c.carry.ensures
