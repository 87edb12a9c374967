-- `text_field::put_leaders` meets its contract. The part that is walked is the body as far as it is there.
-- Assumes nothing.
use mathlib.Core.Path.{◌≡◌}
use mathlib.Core.List.{List, [], ◌∷◌}
use Prim.Native.Nat.{ℕ}
use lib.Seq.{slice}
use Rattle.text_line.specs.Line.{parted}
use Rattle.text_field.specs.Fields.{numbers_in, body_of}
use Rattle.text_line.proofs.Puts.{put_as}
use Rattle.text_line.proofs.Parted.{put-more, put_ended}
use Rattle.text_field.proofs.Parts.{part_slice}
use Rattle.text_field.proofs.put_leaders.Goals as goal

pub returns : goal.returns
returns c =
    let a = c.args in
    let report : List ℕ = a.report.now in
    let from : ℕ = c.min-from.result in
    let stop : ℕ = c.width-stop.result in
    let ns : List ℕ = numbers_in (body_of report) in
    let is : parted (numbers_in (slice from stop report)) ≡ parted ns = rw (part_slice report 3 from stop c.width-stop.ensures c.min-from.ensures) in
    put_ended (a.s ∷ a.t ∷ ns) (put-more (a.s ∷ a.t ∷ []) ns c.open_line-next.ensures (put_as is c.put_numbers-last.ensures)) c.put.ensures
