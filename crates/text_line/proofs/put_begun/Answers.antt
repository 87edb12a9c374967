-- `text_line::put_begun` meets its contract: the letter is a line with no number yet, and each number goes on with it.
-- Assumes nothing.
use Rattle.std.proofs.Common.{ℕ, ◌≡◌, ◌+◌, List, [], ◌∷◌, ◌++◌, take, get_or, add-one}
use Rattle.std.proofs.Math.Seq.{take-suc}
use Rattle.text_line.specs.Line.{parted}
use Rattle.text_line.proofs.Parted.{put-more}
use Rattle.text_line.proofs.put_begun.Goals as goal

pub loop-n-init : goal.loop-n-init
unfolding parted
loop-n-init c = c.put-next.ensures

pub loop-n-preserved : goal.loop-n-preserved
loop-n-preserved c =
    let numbers : List ℕ = c.args.numbers.now in
    let i : ℕ = c.loop-n.n-index in
    let e : take (i + 1) numbers ≡ take i numbers ++ (get_or numbers i 0 ∷ []) = rw (add-one i) (take-suc numbers i 0 c.loop-n-test.true) in
    rw e (put-more (take i numbers) (get_or numbers i 0 ∷ []) c.loop-n.invariant c.put_parted-next.ensures)
