-- `text_field::put_numbers` meets its contract. The invariant: the numbers before `p` are put, and those of the part from `p` on are still to come.
-- The measure is what is left of the part.
-- Assumes nothing.
use Prim.Native.Nat.{◌-◌, ◌≤◌}
use lib.Seq.{slice}
use Rattle.text_line.specs.Line.{parted}
use Rattle.text_field.specs.Fields.{numbers_in}
use Rattle.text_line.specs.Put.{Half}
use Rattle.text_field.proofs.put_numbers.Given as goal

abbrev pub invariant-loop-p : goal.invariant-loop-p
invariant-loop-p l = (l.p ≤ l.stop) × Half (parted (numbers_in (slice l.from l.stop l.report))) (parted (numbers_in (slice l.p l.stop l.report))) l.initial.out l.at l.out l.next

abbrev pub decreases-loop-p : goal.decreases-loop-p
decreases-loop-p l = l.stop - l.p
