use borrow.Author.Rules.{rules}
use mathlib.Core.Path.{◌≡◌, ap}
use mathlib.Core.Logic.{◌≢◌}
use Rattle.script_tokens.specs.declared.Kind.TheVariants.{Known}
use Rattle.script_tokens.specs.Kinds.{number}
use Rattle.script_tokens.proofs.Apart.{number-apart}
use Rattle.script_commands.proofs.Asking.{ask-on}
use Rattle.script_commands.proofs.Making.{command-declare, command-assert, command-check, command-other}
use Rattle.script_commands.proofs.command.Goals as goal

pub declare_fun-requires : goal.declare_fun-requires
declare_fun-requires c = ask-on c.requires c.read_at-x.ensures.inside

pub returns-then-eq : goal.returns-then-eq
returns-then-eq c = let e : c.read_at-x.result.kind ≡ Known 29 = search (rules, c.if-eq.ensures) in command-declare c.read_at-x.ensures c.args.sort.now _ (ap number e) c.declare_fun.ensures

pub assertion-requires : goal.assertion-requires
assertion-requires c = ask-on c.requires c.read_at-x.ensures.inside

pub returns-then-eq-2 : goal.returns-then-eq-2
returns-then-eq-2 c = let e : c.read_at-x.result.kind ≡ Known 23 = search (rules, c.if-eq-2.ensures) in command-assert c.read_at-x.ensures c.args.sort.now _ (ap number e) c.assertion.ensures

pub check_sat-requires : goal.check_sat-requires
check_sat-requires c = ask-on c.requires c.read_at-x.ensures.inside

pub returns-then-eq-3 : goal.returns-then-eq-3
returns-then-eq-3 c = let e : c.read_at-x.result.kind ≡ Known 24 = search (rules, c.if-eq-3.ensures) in command-check c.read_at-x.ensures c.args.sort.now _ (ap number e) c.check_sat.ensures

pub returns : goal.returns
returns c = let a : c.read_at-x.result.kind ≢ Known 29 = search (rules, c.if-eq.ensures) in let b : c.read_at-x.result.kind ≢ Known 23 = search (rules, c.if-eq-2.ensures) in let d : c.read_at-x.result.kind ≢ Known 24 = search (rules, c.if-eq-3.ensures) in command-other c.read_at-x.ensures c.args.sort.now (number-apart a) (number-apart b) (number-apart d)
