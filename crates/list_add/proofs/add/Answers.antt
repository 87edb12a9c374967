-- `add` meets its contract, by the kind of the record. Assumes nothing.
use Prim.Native.Nat.{◌<◌}
use native.Mathlib.Omega.{arith}
use mathlib.Core.Path.{sym, ap, ◌∙◌}
use mathlib.Core.Bool.{true≢false}
use borrow.Author.Tests.{eq-eqb, eqb-false, eqb-true}
use Rattle.table.specs.Map.{result_of}
use Rattle.list_add.proofs.Adds.{added_none}
use Rattle.list_add.proofs.add.Goals as goal

pub placed-r-requires : goal.placed-r-requires
placed-r-requires c = (c.requires.rested.standing.long, omega (arith, c.requires.top, c.requires.rested.short))

pub returns-then-eq : goal.returns-then-eq
returns-then-eq c = added_none c.requires.rested (sym c.placed-r.ensures ∙ eqb-true _ _ (sym c.eq.ensures ∙ c.if-eq.true))

pub is_equation-requires : goal.is_equation-requires
is_equation-requires c = let z : c.args.i < c.args.t.n = omega (arith, c.requires.top) in (c.requires.rested.standing.long, rw c.placed-r.ensures (omega (arith, c.requires.rested.named _ z, c.requires.rested.loaded.most)))

pub add_equation-requires : goal.add_equation-requires
add_equation-requires c = (c.requires, (λ e. eqb-false _ _ (sym c.eq.ensures ∙ c.if-eq.false) (c.placed-r.ensures ∙ e)), ap (result_of _) (sym c.placed-r.ensures) ∙ eqb-true _ _ (sym c.is_equation.ensures ∙ c.if-is_equation.true), c.placed-r.ensures)

pub returns-then-is_equation : goal.returns-then-is_equation
returns-then-is_equation c = c.add_equation.ensures

pub add_application-requires : goal.add_application-requires
add_application-requires c = (c.requires, (λ e. eqb-false _ _ (sym c.eq.ensures ∙ c.if-eq.false) (c.placed-r.ensures ∙ e)), λ e. true≢false (sym (eq-eqb _ _ (ap (result_of _) c.placed-r.ensures ∙ e)) ∙ sym c.is_equation.ensures ∙ c.if-is_equation.false))

pub returns : goal.returns
returns c = c.add_application.ensures
