-- `text_field::put_breach` meets its contract. The part that is walked is the body behind its first number as far as it is there.
-- Assumes nothing.
use mathlib.Core.Path.{◌≡◌, ◌∙◌}
use mathlib.Core.List.{List, [], ◌∷◌}
use Prim.Native.Nat.{ℕ, ◌-◌, ◌/◌}
use lib.ListN.{length}
use lib.Seq.{slice}
use Rattle.text_line.specs.Line.{parted}
use Rattle.job_field.specs.Reading.{number_at}
use Rattle.text_field.specs.Fields.{numbers_in, part_of}
use Rattle.text_line.proofs.Puts.{put_as}
use Rattle.text_line.proofs.Parted.{put-more, put_ended}
use Rattle.text_field.proofs.Parts.{part_slice, length_part}
use Rattle.text_field.proofs.put_breach.Goals as goal

pub returns : goal.returns
returns c =
    let report : List ℕ = c.args.report.now in
    let from : ℕ = c.min-from.result in
    let stop : ℕ = c.width-stop.result in
    let ns : List ℕ = numbers_in (part_of 5 report) in
    let first : c.from-number.result ≡ number_at report 3 = c.from-number.ensures ∙ c.number.ensures in
    let is : parted (numbers_in (slice from stop report)) ≡ parted ns = rw (part_slice report 5 from stop c.width-stop.ensures c.min-from.ensures) in
    let many : (stop - from) / 2 ≡ length ns = length_part report 5 from stop c.width-stop.ensures c.min-from.ensures in
    put_ended (number_at report 3 ∷ length ns ∷ ns)
    (put-more (number_at report 3 ∷ length ns ∷ []) ns (rw (first, many) at c.open_line-next.ensures) (put_as is c.put_numbers-last.ensures))
    c.put.ensures
