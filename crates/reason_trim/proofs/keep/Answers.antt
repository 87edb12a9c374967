-- `trimming::keep` meets its contract. Assumes nothing.
use borrow.Author.Tests.{eqb-false, eqb-true}
use native.Mathlib.Omega.{arith}
use native.Mathlib.Numerals.{add-one}
use mathlib.Core.Path.{refl, sym, ◌∙◌}
use Rattle.reason_trim.proofs.Closing.{place-list}
use Rattle.reason_trim.proofs.keep.Goals as goal

pub listed-r-requires : goal.listed-r-requires
listed-r-requires c = (c.requires.0, omega (arith, c.requires.1))

pub returns-then-eq : goal.returns-then-eq
returns-then-eq c = record { none = λ e. (refl, refl); some = λ d. absurd (d (place-list _ _ c.requires.1 ∙ sym c.listed-r.ensures ∙ eqb-true _ _ (sym c.eq.ensures ∙ c.if-eq.true))) }

pub put_listed-requires : goal.put_listed-requires
put_listed-requires c = (c.requires.0, omega (arith, c.requires.1, c.requires.2))

pub overflow_add-result : goal.overflow_add-result
overflow_add-result c = omega (arith, c.requires.1, c.requires.2)

pub returns : goal.returns
returns c = record { none = λ e. absurd (eqb-false _ _ (sym c.eq.ensures ∙ c.if-eq.false) (c.listed-r.ensures ∙ sym (place-list _ _ c.requires.1) ∙ e)); some = λ d. (rw add-one refl, rw (place-list c.args.work.now c.args.i c.requires.1, ← c.listed-r.ensures) c.put_listed.ensures) }
