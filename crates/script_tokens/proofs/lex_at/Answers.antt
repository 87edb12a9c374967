use native.Mathlib.Omega.{arith}
use mathlib.Core.Path.{sym, ◌∙◌}
use Rattle.script_tokens.proofs.Steps.{lexed-end, lexed-opening, lexed-closing, lexed-word, lexed-other}
use Rattle.script_tokens.proofs.lex_at.Goals as goal

pub returns-then-from-s : goal.returns-then-from-s
returns-then-from-s c = lexed-end c.skip-from.ensures (omega arith)

pub returns-in-40 : goal.returns-in-40
returns-in-40 c = lexed-opening c.skip-from.ensures (omega arith) c.in-40.is

pub returns-in-41 : goal.returns-in-41
returns-in-41 c = lexed-closing c.skip-from.ensures (omega arith) c.in-41.is

pub returns-in_default : goal.returns-in_default
returns-in_default c = lexed-word c.skip-from.ensures (omega arith) (sym c.is_symbolic.ensures ∙ c.if-is_symbolic.true) (λ e. omega arith) (λ e. omega arith) c.run_end-to.ensures

pub returns-in_default-2 : goal.returns-in_default-2
returns-in_default-2 c = lexed-other c.skip-from.ensures (omega arith) (sym c.is_symbolic.ensures ∙ c.if-is_symbolic.false) (λ e. omega arith) (λ e. omega arith)
