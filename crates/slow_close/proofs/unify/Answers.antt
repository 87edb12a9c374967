-- `unify` meets its contract. What the chains have for a key is an application with that key, so the results of the two are asked to be together.
-- Assumes nothing.
use native.Mathlib.Omega.{arith}
use Prim.Native.Nat.{ℕ, suc, ◌-◌}
use mathlib.Core.Path.{◌≡◌}
use Rattle.slow_chain.proofs.Rows.{row-most}
use Rattle.slow_close.proofs.Going.{unify-low, unify-asks, unify-done}
use Rattle.slow_close.proofs.unify.Goals as goal

-- The place that a link leads to.
back : (p : ℕ) → suc p - 1 ≡ p
back p = omega arith

pub number-q-requires : goal.number-q-requires
number-q-requires c = omega (arith, unify-low c.requires, c.requires.step.going.frozen.loaded.most)

pub result-s-requires : goal.result-s-requires
result-s-requires c = (c.requires.step.going.frozen.loaded.long, rw c.number-q.ensures (row-most c.requires.step.going.frozen.loaded c.args.p (rw (back c.args.p) at (unify-low c.requires))))

pub meet_new-requires : goal.meet_new-requires
meet_new-requires c = unify-asks c.requires (rw (back c.args.p) c.number-q.ensures) c.number-r.ensures c.result-s.ensures c.result-t.ensures

pub returns : goal.returns
returns c = unify-done c.requires (rw (back c.args.p) c.number-q.ensures) c.number-r.ensures c.result-s.ensures c.result-t.ensures c.meet_new.ensures
