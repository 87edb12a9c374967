-- `text::tell_answer` meets its contract. Each arm tells the text that the definition gives for the number; a length past the room's end takes all of
-- the room, as `take` does.
-- Assumes nothing.
use mathlib.Core.Path.{◌≡◌}
use mathlib.Core.List.{List}
use Prim.Native.Nat.{ℕ}
use native.Mathlib.Omega.{arith}
use lib.ListN.{take}
use lib.Seq.{take_all}
use Rattle.text.proofs.Telling.{answered-report, answered-refusal}
use Rattle.text.proofs.tell_answer.Goals as goal

pub returns-then-size-room : goal.returns-then-size-room
returns-then-size-room c = answered-report c.args.job.now c.args.room.now c.args.number c.args.place c.args.size c.if-number-eq0.true (λ k. (c.type_inv.room k).fits) c.tell_report.ensures

pub returns-else-size-room : goal.returns-else-size-room
returns-else-size-room c =
    let room : List ℕ = c.args.room.now in
    let all : take c.args.size room ≡ room = take_all c.args.size room (omega (arith, c.if-size-room.false)) in
    answered-report c.args.job.now room c.args.number c.args.place c.args.size c.if-number-eq0.true (λ k. (c.type_inv.room k).fits) (rw all c.tell_report-else-size-room.ensures)

pub returns-else-number-eq0 : goal.returns-else-number-eq0
returns-else-number-eq0 c = answered-refusal c.args.job.now c.args.room.now c.args.number c.args.place c.args.size c.if-number-eq0.false (omega arith) (omega arith) c.tell_refusal.ensures
