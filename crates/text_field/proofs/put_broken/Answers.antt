-- `text_field::put_broken` meets its contract. Each arm puts the line that the definition gives for the kind.
-- Assumes nothing.
use mathlib.Core.Path.{sym, ◌∙◌}
use Rattle.text_line.proofs.Puts.{put_as}
use Rattle.text_field.proofs.Parts.{broken_line-breach, broken_line-none}
use Rattle.text_field.proofs.put_broken.Goals as goal

pub returns-then-byte-eq134 : goal.returns-then-byte-eq134
returns-then-byte-eq134 c = put_as (broken_line-breach _ _ _ (sym c.byte.ensures ∙ c.if-byte-eq134.true)) c.put_breach.ensures

pub returns-else-byte-eq134 : goal.returns-else-byte-eq134
returns-else-byte-eq134 c = put_as (broken_line-none _ _ _ (λ e. c.if-byte-eq134.false (c.byte.ensures ∙ e))) c.put_intact.ensures
