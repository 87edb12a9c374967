-- The report of a run is inside the room: where there is one, the room that is left begins with it.
-- Assumes nothing.
use mathlib.Core.Path.{◌≡◌}
use Prim.Native.Nat.{ℕ, ◌≤◌, ◌+◌}
use native.Mathlib.Omega.{arith}
use mathlib.Core.List.{List, ◌++◌}
use lib.ListN.{length, drop, length-append}
use Rattle.records.specs.declared.Record.{Record}
use Rattle.haltzurme.specs.Run.{Ran, long, narrow, unread, cramped, done}

front : (bs rest : List ℕ) → length bs ≤ length (bs ++ rest)
front bs rest = let e : length (bs ++ rest) ≡ length bs + length rest = rw length-append in omega (arith, e)

pub inside-room : {job room work : List ℕ} {t t' : List Record} {n p l : ℕ} {room' work' : List ℕ} → Ran job room t work n p l room' t' work' → l ≤ length room'
inside-room (long _) = omega arith
inside-room (narrow _ _) = omega arith
inside-room (unread _ _ _) = omega arith
inside-room (cramped _ _ _ _) = omega arith
inside-room {room = room} (done {bs = bs} _ _ _ _ _) = front bs (drop (length bs) room)
