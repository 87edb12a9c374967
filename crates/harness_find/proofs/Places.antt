-- Where the search stands in the table: levels and last records read and stored, and two ways gone back in step. Assumes nothing.
use Prim.Native.Nat.{ℕ, zero, suc, ◌-◌, ◌≤◌, ◌<◌, min}
use native.Mathlib.Omega.{arith}
use native.Mathlib.Decide.{dec_lt}
use mathlib.Core.Path.{◌≡◌, refl, sym, ◌∙◌}
use mathlib.Core.Logic.{◌≢◌}
use mathlib.Core.List.{List}
use lib.Dec.{ltb}
use borrow.Author.Tests.{eq-eqb, ne_eqb}
use Rattle.meaning.specs.Limits.{most_tags, most_records}
use Rattle.table.specs.Map.{left_of, right_of}
use Rattle.table.proofs.Frame.{seen-past}
use Rattle.harness_meaning.specs.Search.{far, sooner}
use Rattle.harness_table.specs.Levels.{LEVELS, lev_in, last_in}
use Rattle.harness_find.specs.Table.{Trial}

-- A record's other end, by a test of its first.
pub far-second : (a b : ℕ → ℕ) {k v x r : ℕ} → v ≡ x → x ≡ a k → r ≡ b k → r ≡ far a b k v
far-second a b {k} {v} q e h = rw (eq-eqb v (a k) (q ∙ e)) h

pub far-first : (a b : ℕ → ℕ) {k v x : ℕ} → v ≢ x → x ≡ a k → x ≡ far a b k v
far-first a b {k} {v} q e = rw (ne_eqb v (a k) (λ z. q (z ∙ sym e))) e

-- Levels are those of the job's tags.
pub level-small : {w : List ℕ} {d : ℕ} (x : ℕ) → Trial w d → lev_in w x ≤ suc d → x < most_tags
level-small {w} {d} x t l = go (dec_lt x most_tags)
  where
    go : Dec (x < most_tags) → x < most_tags
    go (yes h) = h
    go (no h) = absurd (omega (arith, seen-past LEVELS w x (omega arith), t.during.room))

-- Two that go back in step, from u and v of level d, have come to x and y of level n.
pub record Stepping (w : List ℕ) (d u v k j n x y p q : ℕ) : Type 0 where
  pub deep : n ≤ d
  pub x-level : lev_in w x ≡ n
  pub y-level : lev_in w y ≡ n
  pub same : sooner (left_of w) (right_of w) (last_in w) n x y p q ≡ sooner (left_of w) (right_of w) (last_in w) d u v k j

pub step_start : {w : List ℕ} {d u v : ℕ} (k j : ℕ) → lev_in w u ≡ d → lev_in w v ≡ d → Stepping w d u v k j d u v k j
step_start k j e f = record { deep = omega arith; x-level = e; y-level = f; same = refl }

module _ {w : List ℕ} {d u v k j n x y p q : ℕ} (t : Trial w d) (h : Stepping w d u v k j n x y p q) where
  pub step-x : x < most_tags
  step-x = level-small x t (omega (arith, h.x-level, h.deep))

  pub step-y : y < most_tags
  step-y = level-small y t (omega (arith, h.y-level, h.deep))

  -- Where they are one tag, or s, the comparison is over.
  pub step-met : x ≡ y → ltb p q ≡ sooner (left_of w) (right_of w) (last_in w) d u v k j
  step-met e = go n h.same
    where
      go : (m : ℕ) → sooner (left_of w) (right_of w) (last_in w) m x y p q ≡ sooner (left_of w) (right_of w) (last_in w) d u v k j → ltb p q ≡ sooner (left_of w) (right_of w) (last_in w) d u v k j
      go zero s = s
      go (suc m) s = rw (eq-eqb x y e) at s

  pub step_end : n ≡ 0 → ltb p q ≡ sooner (left_of w) (right_of w) (last_in w) d u v k j
  step_end e = rw e at h.same

  -- One step more.
  module _ (some : n ≢ 0) where
    abbrev m : ℕ
    m = n - 1

    up : n ≡ suc m
    up = omega arith

    pub last-few : (z : ℕ) → lev_in w z ≡ n → last_in w z ≤ most_records
    last-few z e = let o : m < d = omega (arith, h.deep) in omega (arith, t.during.tree.within z m o (e ∙ up), t.few)

    pub step-on : {e f i o p' q' x' y' : ℕ} → x ≢ y → e ≡ last_in w x → f ≡ last_in w y → i ≡ e → o ≡ f → p' ≡ min p i → q' ≡ min q o
        → x' ≡ far (left_of w) (right_of w) e x → y' ≡ far (left_of w) (right_of w) f y → Stepping w d u v k j (n - 1) x' y' p' q'
    step-on {e} {f} {i} {o} {p'} {q'} {x'} {y'} ne ee ef ei eo ep eq ex ey =
        let z : m < d = omega (arith, h.deep) in
        let s : sooner (left_of w) (right_of w) (last_in w) (suc m) x y p q ≡ sooner (left_of w) (right_of w) (last_in w) d u v k j = rw up at h.same in
        let r = rw (ne_eqb x y ne) at s in
        record {
          deep = omega (arith, h.deep);
          x-level = rw (ex, ee) (t.during.tree.down x m z (h.x-level ∙ up));
          y-level = rw (ey, ef) (t.during.tree.down y m z (h.y-level ∙ up));
          same = rw (ex, ey, ep, eq, ei, eo, ee, ef) r;
        }
