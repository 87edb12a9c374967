-- `text_field::put_sheets` meets its contract. The part that is walked is the body as far as it is there.
-- Assumes nothing.
use mathlib.Core.Path.{◌≡◌}
use mathlib.Core.List.{List, [], ◌∷◌}
use Prim.Native.Nat.{ℕ, ◌-◌, ◌/◌}
use lib.ListN.{length}
use lib.Seq.{slice}
use Rattle.text_line.specs.Line.{parted}
use Rattle.text_field.specs.Fields.{numbers_in, body_of, sheets_line}
use Rattle.text_line.proofs.Puts.{put_as, put_then}
use Rattle.text_line.proofs.Parted.{put-more, put_ended}
use Rattle.text_field.proofs.Parts.{part_slice, length_part}
use Rattle.text_field.proofs.put_sheets.Goals as goal

pub returns : goal.returns
unfolding sheets_line
returns c =
    let report : List ℕ = c.args.report.now in
    let from : ℕ = c.min-from.result in
    let stop : ℕ = c.width-stop.result in
    let ns : List ℕ = numbers_in (body_of report) in
    let is : parted (numbers_in (slice from stop report)) ≡ parted ns = rw (part_slice report 3 from stop c.width-stop.ensures c.min-from.ensures) in
    let many : (stop - from) / 2 ≡ length ns = length_part report 3 from stop c.width-stop.ensures c.min-from.ensures in
    put_ended (length ns ∷ ns)
    (put-more (length ns ∷ []) ns (put_then c.put-next.ensures (rw many at c.put_parted-second.ensures)) (put_as is c.put_numbers-last.ensures))
    c.put.ensures
