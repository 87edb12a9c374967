-- A text that was put from the front of a room on, as the public calls tell it.
-- Assumes nothing.
use Prim.Native.Nat.{ℕ, ◌+◌, ◌≤◌, ◌<◌}
use native.Mathlib.Omega.{arith}
use mathlib.Core.Path.{◌≡◌, sym, ◌∙◌, ap, subst}
use mathlib.Core.List.{List, ◌++◌, append-nil}
use lib.ListN.{length, take, drop, take-append-drop}
use lib.Seq.{sets, sets-eq, length-take-le, drop-length}
use Rattle.text_line.specs.Put.{Put}
use Rattle.text_line.proofs.Puts.{sets-append, sets-past, put-length}
use Rattle.text.specs.Told.{Tells, whole, full, Ended, within, past}
use Rattle.std.specs.Prelude.{Option}

-- A text that fits stands at the room's front; one that is longer fills the room.
sets-front : (room text : List ℕ) → length text ≤ length room → sets room 0 text ≡ text ++ drop (length text) room
sets-front room text h =
    let z : 0 + length text ≡ length text = omega arith in
    sets-eq text room 0 (omega arith) ∙ ap (λ (k : ℕ). text ++ drop k room) z

sets_over : (room text : List ℕ) → length room ≤ length text → sets room 0 text ≡ take (length room) text
sets_over room text h =
    let front : List ℕ = take (length room) text in
    let size : length front ≡ length room = length-take-le (length room) text h in
    let fill : sets room 0 front ≡ front = sets-front room front (omega arith) ∙ rw (size, drop-length room, append-nil) in
    ap (sets room 0) (sym (take-append-drop (length room) text)) ∙ sets-append room 0 front (drop (length room) text) ∙ rw fill (sets-past front (0 + length front) (drop (length room) text) (omega arith))

pub put-told : {text room room' : List ℕ} {next : ℕ} {told : Option ℕ} → Put text room 0 room' next → Ended next (length room') told → Tells text room room' told
put-told {text} {room} {room'} {next} p (within h) =
    let n : next ≡ length text = omega (arith, p.place, put-length p) in
    whole n (p.bytes ∙ sets-front room text (omega (arith, put-length p)) ∙ rw n)
put-told {text} {room} {room'} {next} p (past h) =
    let long : length room < length text = omega (arith, p.place, put-length p) in
    full long (p.bytes ∙ sets_over room text (omega arith))

pub tells_as : {s t room room' : List ℕ} {told : Option ℕ} → s ≡ t → Tells s room room' told → Tells t room room' told
tells_as {s} {t} {room} {room'} {told} e p = subst (λ (x : List ℕ). Tells x room room' told) e p
