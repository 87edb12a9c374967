-- `text_field::put_why` meets its contract. Each arm puts the line that the definition gives for the kind.
-- Assumes nothing.
use mathlib.Core.Path.{sym, ◌∙◌}
use Rattle.text_line.proofs.Puts.{put_as}
use Rattle.text_field.proofs.Parts.{why_line-leaders, why_line-none}
use Rattle.text_field.proofs.put_why.Goals as goal

pub returns-then-byte-eq136 : goal.returns-then-byte-eq136
returns-then-byte-eq136 c = put_as (why_line-leaders _ _ _ _ (sym c.byte.ensures ∙ c.if-byte-eq136.true)) c.put_leaders.ensures

pub returns-else-byte-eq136 : goal.returns-else-byte-eq136
returns-else-byte-eq136 c = put_as (why_line-none _ _ _ _ (λ e. c.if-byte-eq136.false (c.byte.ensures ∙ e))) c.put_pair.ensures
