use borrow.Author.Rules.{rules}
use mathlib.Core.Path.{◌≡◌, ap}
use mathlib.Core.Logic.{◌≢◌}
use Rattle.script_tokens.specs.declared.Kind.TheVariants.{Closing}
use Rattle.script_tokens.specs.Kinds.{number}
use Rattle.script_tokens.proofs.Apart.{number-apart}
use Rattle.script_steps.proofs.Outcomes.{handed}
use Rattle.script_steps.proofs.Stepping.{sorting_start, sorting-refused, sorting-on, sorting-closed}
use Rattle.script_steps.proofs.sorts.Goals as goal

pub loop-x-init : goal.loop-x-init
loop-x-init c = sorting_start c.read_at-x.result c.requires.0 c.read_at-x.ensures

pub sort_of-requires : goal.sort_of-requires
sort_of-requires c = c.loop-x.invariant.token

pub returns-in_err-at : goal.returns-in_err-at
returns-in_err-at c = let d : c.loop-x.x.kind ≢ Closing = search (rules, c.loop-x-test.ensures) in let q = handed c.from_residual.ensures in rw q (sorting-refused c.loop-x.invariant (number-apart d) c.in_err-at.ensures)

pub loop-x-preserved : goal.loop-x-preserved
loop-x-preserved c = let d : c.loop-x.x.kind ≢ Closing = search (rules, c.loop-x-test.ensures) in sorting-on c.loop-x.invariant (number-apart d) c.read_at-x-in-loop-x.result c.in_ok-at.ensures c.read_at-x-in-loop-x.ensures

pub returns : goal.returns
returns c = let e : c.loop-x.x.kind ≡ Closing = search (rules, c.loop-x-test.ensures) in sorting-closed c.loop-x.invariant (ap number e)
