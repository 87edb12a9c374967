use borrow.Author.Rules.{rules}
use mathlib.Core.Path.{◌≡◌, ap}
use mathlib.Core.Logic.{◌≢◌}
use Rattle.script_tokens.specs.declared.Kind.TheVariants.{Known}
use Rattle.script_tokens.specs.Kinds.{number}
use Rattle.script_tokens.proofs.Apart.{number-apart}
use Rattle.script_steps.proofs.Outcomes.{handed}
use Rattle.script_commands.proofs.Asking.{ask-on}
use Rattle.script_commands.proofs.Making.{assert-open, assert-equal, assert-not, assert-other}
use Rattle.script_commands.proofs.assertion.Goals as goal

pub returns-in_err-opening : goal.returns-in_err-opening
returns-in_err-opening c = let q = handed c.from_residual.ensures in rw q (assert-open c.in_err-opening.ensures)

pub equality-requires : goal.equality-requires
equality-requires c = ask-on c.requires c.read_at-x.ensures.inside

pub returns-then-eq : goal.returns-then-eq
returns-then-eq c = let e : c.read_at-x.result.kind ≡ Known 7 = search (rules, c.if-eq.ensures) in assert-equal c.in_ok-opening.ensures c.read_at-x.ensures _ (ap number e) c.equality.ensures

pub negation-requires : goal.negation-requires
negation-requires c = ask-on c.requires c.read_at-x.ensures.inside

pub returns-then-negated : goal.returns-then-negated
returns-then-negated c = let e : c.read_at-x.result.kind ≡ Known 2 = search (rules, c.if-negated.ensures) in assert-not c.in_ok-opening.ensures c.read_at-x.ensures _ (ap number e) c.negation.ensures

pub returns : goal.returns
returns c = let a : c.read_at-x.result.kind ≢ Known 7 = search (rules, c.if-eq.ensures) in let b : c.read_at-x.result.kind ≢ Known 2 = search (rules, c.if-negated.ensures) in assert-other c.in_ok-opening.ensures c.read_at-x.ensures (number-apart a) (number-apart b)
