-- `text_field::put_numbers` meets its contract. The invariant: the numbers before `p` are put, and those of the part from `p` on are still to come.
-- The measure is what is left of the part.
-- Assumes nothing.
use mathlib.Core.Path.{ap, ◌∙◌}
use mathlib.Core.List.{List, [], ◌∷◌}
use Prim.Native.Nat.{ℕ}
use native.Mathlib.Omega.{arith}
use Rattle.text_line.specs.Line.{parted}
use Rattle.text_line.proofs.Puts.{put_as, half-none, half-more, half-done, half-as}
use Rattle.text_field.proofs.Parts.{numbers-next, numbers-none}
use Rattle.text_field.proofs.put_numbers.Goals as goal

pub loop-p-init : goal.loop-p-init
loop-p-init c = (c.requires.from_le_stop, half-none _ _ _ c.requires.at_in_bounds)

pub loop-p-preserved : goal.loop-p-preserved
loop-p-preserved c =
    let report : List ℕ = c.args.report.now in
    let p : ℕ = c.loop-p.p in
    let stop : ℕ = c.args.stop in
    let e = ap (λ (n : ℕ). parted (n ∷ [])) (c.from.ensures ∙ c.number.ensures) in (
      omega (arith, c.loop-p-test.true),
      half-more (half-as (numbers-next report p stop (omega (arith, c.loop-p-test.true)) c.requires.stop_in_bounds) c.loop-p.invariant.1)
          (put_as e c.put_parted-next.ensures),
    )

pub returns : goal.returns
returns c = half-done (half-as (numbers-none _ _ _ c.loop-p-test.false c.requires.stop_in_bounds) c.loop-p.invariant.1)
