-- The way back from t, record by record, in the list. Assumes nothing.
use Prim.Native.Nat.{ℕ, suc, ◌+◌, ◌-◌, ◌≤◌, ◌<◌}
use native.Mathlib.Omega.{arith}
use native.Mathlib.Decide.{dec_lt}
use native.Mathlib.Numerals.{add-one}
use mathlib.Core.Path.{◌≡◌, refl, ◌∙◌, ap}
use mathlib.Core.Logic.{inr}
use mathlib.Core.List.{List, ◌∷◌, ◌++◌, append_assoc, append-nil}
use lib.ListN.{set}
use Rattle.meaning.specs.Joins.{put}
use Rattle.meaning.proofs.Log.{put-hit, put-miss}
use Rattle.meaning.specs.Limits.{most_tags, most_records}
use Rattle.table.specs.Map.{left_of, right_of, list_of, list_in, Within}
use Rattle.table.specs.Places.{LIST, Large, all_of}
use Rattle.table.proofs.Frame.{seen-in, seen-past, seen-within, gather-same, within-refl, within-trans, within-set}
use Rattle.harness_meaning.specs.Search.{far, climb}
use Rattle.harness_table.specs.Levels.{LEVELS, LASTS, lev_in, last_in}
use Rattle.harness_find.specs.Table.{Traceable, Traced}
use Rattle.harness_find.proofs.Scanning.{same-lefts, same-rights}

pub record Tracing (w w' : List ℕ) (t n i v : ℕ) : Type 0 where
  pub few : i ≤ n
  pub kept : Within (all_of LIST) w w'
  pub level : lev_in w v ≡ n - i
  pub list : list_in i w' ++ climb (left_of w) (right_of w) (last_in w) (n - i) v ≡ climb (left_of w) (right_of w) (last_in w) n t

pub trace-start : {w : List ℕ} {t n : ℕ} → Traceable w t n → Tracing w w t n 0 t
trace-start {w} {t} {n} h =
    let q : n - 0 ≡ n = omega arith in
    record { few = omega arith; kept = within-refl w; level = rw q h.found.level; list = rw q refl }

module _ {w w' : List ℕ} {t n i v : ℕ} (h : Traceable w t n) (g : Tracing w w' t n i v) where
  pub trace-long : Large w'
  trace-long = omega (arith, g.kept.size, h.found.done.long)

  pub trace-tag : v < most_tags
  trace-tag = go (dec_lt v most_tags)
    where
      go : Dec (v < most_tags) → v < most_tags
      go (yes l) = l
      go (no l) = absurd (omega (arith, seen-past LEVELS w v (omega arith), g.level, h.found.deep))

  module _ (l : i < n) where
    abbrev m : ℕ
    m = n - (i + 1)

    next : n - i ≡ suc m
    next = omega arith

    low : m < h.found.top
    low = omega (arith, h.found.low)

    pub trace-last : {k : ℕ} → k ≡ last_in w' v → k ≡ last_in w v
    trace-last e = e ∙ ap (λ (f : ℕ → ℕ). f v) (seen-within LASTS g.kept (inr (omega arith)))

    pub trace-record : {k : ℕ} → k ≡ last_in w' v → k ≤ most_records
    trace-record e = omega (arith, trace-last e, h.found.done.levels.tree.within v m low (g.level ∙ next), h.found.done.few)

    pub trace-on : {w'' : List ℕ} {k v' : ℕ} → k ≡ last_in w' v → w'' ≡ set w' (LIST.at + i) k → v' ≡ far (left_of w'') (right_of w'') k v → Tracing w w'' t n (i + 1) v'
    trace-on {w''} {k} {v'} e f q = record {
      few = omega arith;
      kept = kept;
      level = rw (to, last) (h.found.done.levels.tree.down v m low (g.level ∙ next));
      list = rw add-one list;
    }
      where
        last : k ≡ last_in w v
        last = trace-last e

        kept : Within (all_of LIST) w w''
        kept = rw f (within-trans g.kept (within-set (all_of LIST) w' (LIST.at + i) k (omega arith) (omega (arith, h.found.deep))))

        to : v' ≡ far (left_of w) (right_of w) k v
        to = rw (same-lefts (omega arith) kept, same-rights (omega arith) kept) at q

        stored : list_of w'' ≡ put i k (list_of w')
        stored = rw (f, seen-in LIST w' i k (omega (arith, h.found.deep)) (omega (arith, trace-long, h.found.deep))) refl

        front : list_in i w'' ≡ list_in i w'
        front = gather-same (list_of w'') (list_of w') i (λ j o. rw stored (put-miss i k (list_of w') j (λ z. omega arith)))

        there : list_of w'' i ≡ k
        there = rw stored (put-hit i k (list_of w'))

        whole : list_in i w' ++ (k ∷ climb (left_of w) (right_of w) (last_in w) m v') ≡ climb (left_of w) (right_of w) (last_in w) n t
        whole = rw (to, last) (rw next at g.list)

        list : list_in (suc i) w'' ++ climb (left_of w) (right_of w) (last_in w) (n - suc i) v' ≡ climb (left_of w) (right_of w) (last_in w) n t
        list =
            let z : n - suc i ≡ m = omega arith in
            rw (z, front, there, append_assoc) whole

pub trace-end : {w w' : List ℕ} {t n i v : ℕ} → Tracing w w' t n i v → n ≤ i → Traced w w' t n
trace-end {w} {w'} {t} {n} {i} {v} g l =
    let q : i ≡ n = omega (arith, g.few) in
    let z : n - i ≡ 0 = omega arith in
    record { kept = g.kept; list = rw (q) at (rw (append-nil) at (rw z at g.list)) }
