-- `text_field::put_explain` meets its contract. Each arm puts the line that the definition gives for the kind.
-- Assumes nothing.
use mathlib.Core.Path.{sym, ◌∙◌}
use Rattle.text_line.proofs.Puts.{put_as}
use Rattle.text_field.proofs.Parts.{explain_line-reason, explain_line-none}
use Rattle.text_field.proofs.put_explain.Goals as goal

pub returns-then-byte-eq132 : goal.returns-then-byte-eq132
returns-then-byte-eq132 c = put_as (explain_line-reason _ _ _ _ (sym c.byte.ensures ∙ c.if-byte-eq132.true)) c.put_reason.ensures

pub returns-else-byte-eq132 : goal.returns-else-byte-eq132
returns-else-byte-eq132 c = put_as (explain_line-none _ _ _ _ (λ e. c.if-byte-eq132.false (c.byte.ensures ∙ e))) c.put_pair.ensures
