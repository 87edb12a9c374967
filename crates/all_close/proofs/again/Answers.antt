-- `again` meets its contract: what was found is an application that is in, and the results' labels are compared.
-- Assumes nothing.
use mathlib.Core.Path.{◌≡◌, sym, ap, ◌∙◌}
use mathlib.Core.Bool.{false}
use Prim.Native.Nat.{ℕ, suc, ◌-◌, ◌<◌}
use native.Mathlib.Omega.{arith}
use mathlib.Core.List.{List}
use Rattle.std.proofs.Common.{Option, Some}
use Rattle.table.specs.Map.{result_of, label_of}
use Rattle.table_labels.specs.Chain.{as_link}
use Rattle.all_index.specs.declared.Front.{Front}
use Rattle.all_index.specs.State.{eqn_at}
use Rattle.all_settle.proofs.Views.{result_fits}
use Rattle.all_close.specs.State.{Looked}
use Rattle.all_close.proofs.Entering.{next_low}
use Rattle.all_close.proofs.Moments.{again-hit, again-same}
use Rattle.all_close.proofs.again.Goals as goal

-- The place that a link leads to, and what stands there where it was found.
back : (q : ℕ) → suc q - 1 ≡ q
back q = omega arith

hit : {t : Front} {w : List ℕ} {i q : ℕ} (p : Option ℕ) → Looked t w i (as_link p) → p ≡ Some q → (q < i) × (eqn_at w q ≡ false)
hit {q = q} p k e = let h = again-hit k.coming.between (suc q) (ap as_link (sym e) ∙ k.found) (omega arith) in rw (back q) at h

pub number-requires : goal.number-requires
number-requires c = omega (arith, (hit c.args.p c.requires c.in-Some.is).0, next_low c.requires.coming.between c.requires.coming.low)

pub outcome-c-requires : goal.outcome-c-requires
outcome-c-requires c =
    let h = hit c.args.p c.requires c.in-Some.is in
    result_fits c.requires.coming.between.standing.loaded _ (omega (arith, h.0, c.requires.coming.low)) h.1 _ c.number.ensures
