-- `text_field::put_totals` meets its contract: the two numbers of the report's first field, as a line.
-- Assumes nothing.
use mathlib.Core.Path.{ap₂, ◌∙◌}
use mathlib.Core.List.{[], ◌∷◌}
use Prim.Native.Nat.{ℕ}
use Rattle.text_line.specs.Line.{line}
use Rattle.text_field.specs.Fields.{totals_line}
use Rattle.text_line.proofs.Puts.{put_as}
use Rattle.text_field.proofs.put_totals.Goals as goal

pub returns : goal.returns
unfolding totals_line
returns c =
    let first = c.from.ensures ∙ c.number.ensures in
    let second = c.from-2.ensures ∙ c.number-2.ensures in
    put_as (ap₂ (λ (a b : ℕ). line 84 (a ∷ b ∷ [])) first second) c.put_pair.ensures
