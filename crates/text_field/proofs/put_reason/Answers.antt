-- `text_field::put_reason` meets its contract. The part that is walked is the body as far as it is there, and half of its length is the number of its numbers.
-- Assumes nothing.
use mathlib.Core.Path.{◌≡◌}
use mathlib.Core.List.{List, [], ◌∷◌}
use Prim.Native.Nat.{ℕ, ◌-◌, ◌/◌}
use lib.ListN.{length}
use lib.Seq.{slice}
use Rattle.text_line.specs.Line.{parted}
use Rattle.text_field.specs.Fields.{numbers_in, body_of}
use Rattle.text_line.proofs.Puts.{put_as}
use Rattle.text_line.proofs.Parted.{put-more, put_ended}
use Rattle.text_field.proofs.Parts.{part_slice, length_part}
use Rattle.text_field.proofs.put_reason.Goals as goal

pub returns : goal.returns
returns c =
    let report : List ℕ = c.args.report.now in
    let from : ℕ = c.min-from.result in
    let stop : ℕ = c.width-stop.result in
    let ns : List ℕ = numbers_in (body_of report) in
    let k : ℕ = (stop - from) / 2 in
    let is : parted (numbers_in (slice from stop report)) ≡ parted ns = rw (part_slice report 3 from stop c.width-stop.ensures c.min-from.ensures) in
    let many : parted (k ∷ []) ≡ parted (length ns ∷ []) = rw (length_part report 3 from stop c.width-stop.ensures c.min-from.ensures) in
    put_ended (c.args.s ∷ c.args.t ∷ length ns ∷ ns)
    (put-more (c.args.s ∷ c.args.t ∷ length ns ∷ []) ns
    (put-more (c.args.s ∷ c.args.t ∷ []) (length ns ∷ []) c.open_line-next.ensures (put_as many c.put_parted-third.ensures))
    (put_as is c.put_numbers-last.ensures))
    c.put.ensures
