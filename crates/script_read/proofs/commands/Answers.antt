use borrow.Author.Rules.{rules}
use mathlib.Core.Path.{◌≡◌, ap}
use mathlib.Core.Logic.{◌≢◌}
use Rattle.script_tokens.specs.declared.Kind.TheVariants.{Known}
use Rattle.script_tokens.specs.Kinds.{number}
use Rattle.script_tokens.proofs.Apart.{number-apart}
use native.Mathlib.Omega.{arith}
use Rattle.script_steps.proofs.Outcomes.{handed}
use Rattle.script_read.proofs.Running.{run-start, run-ask, run-open, run-stay, run-leave, run-refused, run_on, run-further}
use Rattle.script_read.proofs.commands.Goals as goal

pub loop-opening-init : goal.loop-opening-init
loop-opening-init c = run-start c.requires

pub returns-in_err-opening : goal.returns-in_err-opening
returns-in_err-opening c = let q = handed c.from_residual.ensures in rw q (run-open c.loop-opening.invariant c.requires.inside c.in_err-opening.ensures)

pub returns-in_err-leave : goal.returns-in_err-leave
returns-in_err-leave c = let e : c.read_at-x.result.kind ≡ Known 36 = search (rules, c.if-eq.ensures) in let q = handed c.from_residual-in_err-leave.ensures in rw q (run-stay c.loop-opening.invariant c.requires.inside c.in_ok-opening.ensures c.read_at-x.ensures (ap number e) c.in_err-leave.ensures)

pub returns-then-eq : goal.returns-then-eq
returns-then-eq c = let e : c.read_at-x.result.kind ≡ Known 36 = search (rules, c.if-eq.ensures) in run-leave c.loop-opening.invariant c.requires.inside c.in_ok-opening.ensures c.read_at-x.ensures (ap number e) c.in_ok-leave.ensures

pub command-requires : goal.command-requires
command-requires c = run-ask c.loop-opening.invariant c.requires.inside c.requires.short c.in_ok-opening.ensures.out.holds.inside

pub returns-in_err-done : goal.returns-in_err-done
returns-in_err-done c = let d : c.read_at-x.result.kind ≢ Known 36 = search (rules, c.if-eq.ensures) in let q = handed c.from_residual-in_err-done.ensures in rw q (run-refused c.loop-opening.invariant c.requires.inside c.in_ok-opening.ensures c.read_at-x.ensures (number-apart d) c.in_err-done.ensures)

pub loop-opening-smaller : goal.loop-opening-smaller
loop-opening-smaller c = let d : c.read_at-x.result.kind ≢ Known 36 = search (rules, c.if-eq.ensures) in let h = run-further c.loop-opening.invariant c.requires.inside c.in_ok-opening.ensures c.read_at-x.ensures (number-apart d) c.in_ok-done.ensures in let a = h.0 in let b = h.1 in omega arith

pub loop-opening-preserved : goal.loop-opening-preserved
loop-opening-preserved c = let d : c.read_at-x.result.kind ≢ Known 36 = search (rules, c.if-eq.ensures) in run_on c.loop-opening.invariant c.requires.inside c.in_ok-opening.ensures c.read_at-x.ensures (number-apart d) c.in_ok-done.ensures
