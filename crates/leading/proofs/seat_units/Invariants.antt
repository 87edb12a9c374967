-- `leading::seat_units` meets its contract: each unit takes the seat of its label from those behind it. Assumes nothing.
use Prim.Native.Nat.{◌≤◌}
use Rattle.leading.proofs.Seating.{Seating}
use Rattle.leading.proofs.seat_units.Given as goal

abbrev pub invariant-loop-i : goal.invariant-loop-i
invariant-loop-i l = (l.unit ≤ l.i) × Seating l.initial.work l.work l.size l.i
