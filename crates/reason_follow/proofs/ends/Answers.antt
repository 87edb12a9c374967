-- `reason_follow::ends` meets its contract: the second record number tells the two kinds of join apart, as the definition does.
-- Assumes nothing.
use borrow.Author.Tests.{eq-eqb, ne_eqb, eqb-false, eqb-true}
use mathlib.Core.Path.{◌≡◌, sym, ◌∙◌}
use mathlib.Core.Logic.{◌≢◌}
use mathlib.Core.List.{List}
use Prim.Native.Nat.{ℕ}
use native.Mathlib.Omega.{arith}
use Rattle.table.specs.Map.{left_of, right_of, result_of, first_of, second_of}
use Rattle.reason_follow.specs.Tracing.{Ended}
use Rattle.reason_follow.proofs.Crossing.{holds-ranged}
use Rattle.reason_follow.proofs.ends.Goals as goal

one : (w : List ℕ) (b x y : ℕ) → second_of w b ≡ 0 → x ≡ left_of w (first_of w b) → y ≡ right_of w (first_of w b) → Ended w b x y
one w b x y z p q = record { near-is = rw (eq-eqb (second_of w b) 0 z) p; far-is = rw (eq-eqb (second_of w b) 0 z) q }

two : (w : List ℕ) (b x y : ℕ) → second_of w b ≢ 0 → x ≡ result_of w (first_of w b) → y ≡ result_of w (second_of w b) → Ended w b x y
two w b x y z p q = record { near-is = rw (ne_eqb (second_of w b) 0 z) p; far-is = rw (ne_eqb (second_of w b) 0 z) q }

pub first-p-requires : goal.first-p-requires
first-p-requires c = (c.requires.past.loaded.long, (holds-ranged c.requires).age)

pub second-q-requires : goal.second-q-requires
second-q-requires c = (c.requires.past.loaded.long, (holds-ranged c.requires).age)

pub left-requires : goal.left-requires
left-requires c = (c.requires.past.loaded.long, omega (arith, (holds-ranged c.requires).first, c.first-p.ensures))

pub right-requires : goal.right-requires
right-requires c = (c.requires.past.loaded.long, omega (arith, (holds-ranged c.requires).first, c.first-p.ensures))

pub result-requires : goal.result-requires
result-requires c = (c.requires.past.loaded.long, omega (arith, (holds-ranged c.requires).first, c.first-p.ensures))

pub result-requires-else-eq : goal.result-requires-else-eq
result-requires-else-eq c = (c.requires.past.loaded.long, omega (arith, (holds-ranged c.requires).second, c.second-q.ensures))

pub returns-then-eq : goal.returns-then-eq
returns-then-eq c =
    let p = c.first-p.ensures in
    one _ _ _ _ (sym c.second-q.ensures ∙ (eqb-true _ _ (sym c.eq.ensures ∙ c.if-eq.true))) (rw p at c.left.ensures) (rw p at c.right.ensures)

pub returns-else-eq : goal.returns-else-eq
returns-else-eq c =
    let p = c.first-p.ensures in
    let q = c.second-q.ensures in
    two _ _ _ _ (λ z. (eqb-false _ _ (sym c.eq.ensures ∙ c.if-eq.false)) (q ∙ z)) (rw p at c.result.ensures) (rw q at c.result-else-eq.ensures)
