-- What stands, between two joins: it is kept by changes behind the log, and two applications with one key have arguments with equal labels.
-- Assumes nothing.
use Prim.Native.Nat.{ℕ, suc, ◌<◌}
use native.Mathlib.Omega.{arith}
use mathlib.Core.Path.{◌≡◌, fun_ext}
use mathlib.Core.Logic.{inl}
use mathlib.Core.List.{List}
use Rattle.table.specs.Map.{left_of, right_of, parent_of, age_of, first_of, second_of, when_of, label_of, join_at, Within}
use Rattle.table.proofs.Frame.{seen-within, within_wider}
use Rattle.table_labels.proofs.Rows.{split-key}
use Rattle.table.proofs.Kept.{lefts, rights, results, loaded-same}
use Rattle.table.specs.Places.{AGE, FIRST, LABEL, PARENT, SECOND, WHEN, behind_columns, behind_joins, index_part}
use Rattle.all_index.specs.declared.Front.{Front}
use Rattle.all_index.specs.State.{key_at}
use Rattle.all_index.proofs.Views.{row-right}
use Rattle.all_join.specs.State.{Standing}

-- A change behind the log that keeps the labels keeps what stands.
module _ {w w' : List ℕ} (f : Within behind_joins w w') (label : label_of w' ≡ label_of w) where
  frame : Within behind_columns w w'
  frame = within_wider behind_columns (omega arith) (omega arith) f

  parent : parent_of w' ≡ parent_of w
  parent = seen-within PARENT f (inl (omega arith))

  age : age_of w' ≡ age_of w
  age = seen-within AGE f (inl (omega arith))

  first : first_of w' ≡ first_of w
  first = seen-within FIRST f (inl (omega arith))

  second : second_of w' ≡ second_of w
  second = seen-within SECOND f (inl (omega arith))

  when : when_of w' ≡ when_of w
  when = seen-within WHEN f (inl (omega arith))

  joins : join_at w' ≡ join_at w
  joins = fun_ext (λ a. rw (first, second, lefts frame, rights frame, results frame))

  pub standing-same : {t : Front} {n : ℕ} → Standing t w n → Standing t w' n
  standing-same s = record {
    loaded = loaded-same frame s.loaded;
    reach = s.reach;
    sound = rw (lefts frame, rights frame, results frame, parent, age) s.sound;
    total = rw (parent, age) s.total;
    own = rw (parent, age) s.own;
    tops = rw (parent, age) s.tops;
    log = rw (joins, lefts frame, rights frame, results frame, parent, age, when) s.log;
    marks = rw (label, parent, age) s.marks;
  }

pub standing-frame : {t : Front} {w w' : List ℕ} {n : ℕ} → Within index_part w w' → Standing t w n → Standing t w' n
standing-frame f = standing-same (within_wider behind_joins (omega arith) (omega arith) f) (seen-within LABEL f (inl (omega arith)))

-- The labels of two applications with one key.
module _ {t : Front} {w : List ℕ} {n : ℕ} (s : Standing t w n) where
  right-fits : (j : ℕ) → j < t.places → label_of w (right_of w (suc j)) < 65536
  right-fits j l = omega (arith, s.marks.low (right_of w (suc j)) (row-right s.loaded j (omega (arith, s.reach))), s.loaded.few)

  pub key-args : (j r : ℕ) → j < t.places → r < t.places → key_at w r ≡ key_at w j
      → (label_of w (left_of w (suc r)) ≡ label_of w (left_of w (suc j))) × (label_of w (right_of w (suc r)) ≡ label_of w (right_of w (suc j)))
  key-args j r l k e = split-key (label_of w (left_of w (suc r))) (label_of w (right_of w (suc r))) (label_of w (left_of w (suc j))) (label_of w (right_of w (suc j))) (right-fits r k) (right-fits j l) e
