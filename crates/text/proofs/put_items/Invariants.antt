-- `text::put_items` meets its contract. The invariant: items stand at the place of the job and their lines are still to come, or the job has
-- ended and the text is whole. The measure is what is left of the job.
-- Assumes nothing.
use mathlib.Core.Path.{◌≡◌}
use Prim.Native.Nat.{◌+◌, ◌-◌, ◌≤◌}
use lib.ListN.{length}
use Rattle.job_field.specs.Reading.{head_in, items_in}
use Rattle.text.specs.Lines.{lines_of}
use Rattle.text.proofs.Walking.{Walked}
use Rattle.text.proofs.put_items.Given as goal

abbrev pub invariant-loop-at : goal.invariant-loop-at
invariant-loop-at l = (l.from ≤ length l.report) × (l.next ≤ length l.out + 1) × (length l.out ≡ length l.initial.out) × Walked (head_in l.job).sheeted l.job l.report (lines_of (head_in l.job).sheeted (items_in l.job) l.report) l.initial.out l.at l.from l.out l.next

abbrev pub decreases-loop-at : goal.decreases-loop-at
decreases-loop-at l = length l.job - l.at
