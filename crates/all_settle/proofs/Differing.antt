-- An application that is met, and whose result's label differs from that of the one that is found, has a due join.
-- Assumes nothing.
use Prim.Native.Nat.{ℕ, suc, ◌-◌, ◌≤◌, ◌<◌}
use native.Mathlib.Omega.{arith}
use mathlib.Core.Path.{◌≡◌, sym}
use mathlib.Core.Logic.{◌≢◌, inl, inr}
use mathlib.Core.Bool.{false}
use mathlib.Core.List.Memᴰ
use mathlib.Core.List.{List}
use borrow.Author.Tests.{ne_eqb}
use Rattle.meaning.specs.Joins.{cong, applications}
use Rattle.table.specs.Map.{left_of, right_of, result_of, label_of, chain_of, join_by}
use Rattle.table.proofs.Frame.{gather-in}
use Rattle.all_index.specs.declared.Front.{Front}
use Rattle.all_index.specs.State.{eqn_at, key_at, res_at}
use Rattle.all_index.proofs.Filing.{found-hit}
use Rattle.all_index.proofs.Waiting.{queue-head}
use Rattle.all_join.specs.State.{Standing, Joining}
use Rattle.all_join.proofs.Standing.{key-args}
use Rattle.all_settle.specs.State.{Unifying}
use Rattle.all_settle.proofs.Views.{row-result, row_at}

module _ {t : Front} {w : List ℕ} {p j n : ℕ} (u : Unifying t w p j n) where
  -- It is the first that waits.
  pub unify-head : (j < t.places) × (eqn_at w j ≡ false) × (chain_of w j ≡ 0)
  unify-head = queue-head j u.state.indexed.queue

  hit : (key_at w (p - 1) ≡ key_at w j) × (p ≤ t.places) × (eqn_at w (p - 1) ≡ false) × (0 < chain_of w (p - 1))
  hit = rw u.found (found-hit u.state.indexed.filing.filed (key_at w j) (rw u.found at u.hit))

  pub unify-low : p - 1 < t.places
  unify-low = omega (arith, hit.1, u.hit)

  pub unify-app : eqn_at w (p - 1) ≡ false
  unify-app = hit.2

  abbrev s : Standing t w n
  s = u.state.standing

  args : (label_of w (left_of w (suc (p - 1))) ≡ label_of w (left_of w (suc j))) × (label_of w (right_of w (suc (p - 1))) ≡ label_of w (right_of w (suc j)))
  args = key-args s j (p - 1) unify-head.0 unify-low hit.0

  low-len : (r : ℕ) → r < t.places → r < t.len
  low-len r l = omega (arith, s.reach)

  pair : join_by w (suc (p - 1)) (suc j) ≡ record { u = result_of w (suc (p - 1)); v = result_of w (suc j); why = cong (suc (p - 1)) (suc j) }
  pair = rw (ne_eqb (suc j) 0 (omega arith))

  due : (a b : ℕ) → a ≡ label_of w (result_of w (suc (p - 1))) → b ≡ label_of w (result_of w (suc j)) → a ≢ b → Joining t w n (suc j) (suc (p - 1)) (suc j) a b
  due a b ea eb d = record {
    standing = s;
    indexed = u.state.indexed;
    some = omega (arith, unify-head.0);
    due = rw pair (record {
      tags = (row-result s.loaded (p - 1) (low-len (p - 1) unify-low) unify-app, row-result s.loaded j (low-len j unify-head.0) unify-head.1);
      grounds = applications (rw unify-app at (row_at s.loaded (p - 1) (low-len (p - 1) unify-low))) (rw unify-head.1 at (row_at s.loaded j (low-len j unify-head.0))) args.0 args.1;
      within = λ m h. elim (Memᴰ.cases_cons h) [ inl q ↦ rw q (gather-in suc t.places (p - 1) unify-low) | inr r ↦ rw (Memᴰ.eq_of_singleton r) (gather-in suc t.places j unify-head.0) ];
    });
    apart = d;
    ends = rw pair (inl (sym ea, sym eb));
  }

  -- The numbers of the two records, and of the first that waits, as they were handed on.
  pub unify-due : (f k k' a b : ℕ) → f ≡ suc j → k ≡ suc (p - 1) → k' ≡ suc j → a ≡ res_at w (p - 1) → b ≡ res_at w j → a ≢ b → Joining t w n f k k' a b
  unify-due f k k' a b ef ek ek' ea eb d = rw (ef, ek, ek') (due a b ea eb d)
