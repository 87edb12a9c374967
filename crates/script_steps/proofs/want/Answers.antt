use borrow.Author.Rules.{rules}
use mathlib.Core.Path.{◌≡◌, ap}
use mathlib.Core.Logic.{◌≢◌}
use Rattle.script_tokens.specs.Kinds.{number}
use Rattle.script_tokens.proofs.Apart.{number-apart}
use Rattle.script_steps.proofs.Stepping.{want-there, want-missed}
use Rattle.script_steps.proofs.want.Goals as goal

pub returns-then-eq : goal.returns-then-eq
returns-then-eq c = let e : c.read_at-x.result.kind ≡ c.args.kind = search (rules, c.if-eq.ensures) in want-there c.read_at-x.result c.read_at-x.ensures _ c.requires.1 (ap number e)

pub returns : goal.returns
returns c = let d : c.read_at-x.result.kind ≢ c.args.kind = search (rules, c.if-eq.ensures) in want-missed c.read_at-x.result c.read_at-x.ensures _ c.requires.1 (number-apart d)
