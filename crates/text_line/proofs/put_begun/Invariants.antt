use Rattle.std.proofs.Common.{◌∷◌, take}
use Rattle.text_line.specs.Line.{parted}
use Rattle.text_line.specs.Put.{Put}
use Rattle.text_line.proofs.put_begun.Given as goal

abbrev pub invariant-loop-n : goal.invariant-loop-n
invariant-loop-n l = Put (l.letter ∷ parted (take l.n-index l.numbers)) l.fn.out l.at l.out l.next
