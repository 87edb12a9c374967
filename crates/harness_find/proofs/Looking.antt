-- The search, level by level, over the table. Assumes nothing.
use Prim.Native.Nat.{ℕ, ◌+◌, ◌≤◌, ◌<◌}
use native.Mathlib.Omega.{arith}
use native.Mathlib.Decide.{dec_le}
use native.Mathlib.Numerals.{add-one}
use mathlib.Core.Path.{◌≡◌, refl, sym}
use mathlib.Core.Logic.{◌≢◌, ◌⊎◌, inl, inr}
use mathlib.Core.List.{List}
use lib.ListN.{set}
use Rattle.meaning.specs.Limits.{most_tags}
use Rattle.table.specs.Map.{left_of, right_of, Within}
use Rattle.table.specs.Places.{Large, scratch}
use Rattle.table.proofs.Frame.{seen-in, within-refl, within-trans, within-set, within_wider}
use Rattle.harness_meaning.proofs.Levels.{way-level}
use Rattle.harness_meaning.proofs.Found.{begun-right}
use Rattle.harness_table.specs.Levels.{LEVELS, unfound, found_part, lev_in, last_in}
use Rattle.harness_find.specs.Table.{Done, Rising, Risen, Blank, Begins, Sought, Searched}
use Rattle.harness_find.proofs.Scanning.{same-lefts, same-rights, tags-same, blank-all}

pub begins : {w w₁ w₂ : List ℕ} {s : ℕ} → Large w → s < most_tags → Blank w w₁ most_tags → w₂ ≡ set w₁ (LEVELS.at + s) 0 → Begins w w₂ s
begins {w} {w₁} {w₂} {s} long l h e = record {
  kept = rw e (within-trans h.kept (within-set found_part w₁ (LEVELS.at + s) 0 (omega arith) (omega arith)));
  lev = rw (e, seen-in LEVELS w₁ s 0 l (omega (arith, h.kept.size)), blank-all h) refl;
}

-- What is sought stays so while only levels and last records change.
pub sought-same : {w w' : List ℕ} {R s t : ℕ} → Within found_part w w' → Sought w R s t → Sought w' R s t
sought-same {w} {w'} {R} {s} {t} f h = record {
  long = omega (arith, f.size, h.long);
  few = h.few;
  from = h.from;
  to = h.to;
  tags = tags-same (omega arith) f h.tags;
  steps = h.steps;
  list = h.list;
  near = h.near;
  way = rw (same-lefts (omega arith) f, same-rights (omega arith) f) h.way;
}

-- Where the search stands.
pub record Looking (w w' : List ℕ) (R s t d : ℕ) : Type 0 where
  pub deep : d < most_tags
  pub kept : Within found_part w w'
  pub sought : Sought w' R s t
  pub done : Done w' R s d

pub look-start : {w w' : List ℕ} {R s t : ℕ} → Sought w R s t → Begins w w' s → Looking w' w' R s t 0
look-start {w} {w'} {R} {s} {t} h b = record {
  deep = omega arith;
  kept = within-refl w';
  sought = sought-same b.kept h;
  done = record {
    long = omega (arith, b.kept.size, h.long);
    few = h.few;
    tags = tags-same (omega arith) b.kept h.tags;
    levels = rw b.lev (begun-right (left_of w') (right_of w') R s unfound (last_in w') (omega arith));
  };
}

pub look-rising : {w w' : List ℕ} {R s t d : ℕ} → Looking w w' R s t d → Rising w' R d
look-rising {s = s} h = record { from = s; done = h.done; room = omega (arith, h.deep) }

-- Not found yet: another level can be had.
pub look-on : {w w' w'' : List ℕ} {R s t d : ℕ} → Looking w w' R s t d → lev_in w' t ≡ unfound → Risen w' w'' R d → Looking w w'' R s t (d + 1)
look-on {w} {w'} {w''} {R} {s} {t} {d} h q g = record {
  deep = go (dec_le h.sought.steps d);
  kept = within-trans h.kept g.kept;
  sought = sought-same g.kept h.sought;
  done = rw add-one (g.on s h.done);
}
  where
    go : Dec (h.sought.steps ≤ d) → d + 1 < most_tags
    go (yes l) = absurd (omega (arith, way-level h.done.levels.tree h.sought.way l, h.sought.near))
    go (no l) = omega (arith, h.sought.near)

pub look-end : {w₀ w w' : List ℕ} {R s t d n : ℕ} → Within found_part w₀ w → Looking w w' R s t d → lev_in w' t ≢ unfound → n ≡ lev_in w' t → Searched w₀ w' R s t n
look-end {w₀} {w} {w'} {R} {s} {t} {d} {n} f h q e = record { kept = within_wider scratch (omega arith) (omega arith) (within-trans f h.kept); found = record { top = d; done = h.done; low = low (h.done.levels.high t); level = sym e; deep = omega (arith, low (h.done.levels.high t), h.deep) } }
  where
    low : (lev_in w' t ≤ d) ⊎ (lev_in w' t ≡ unfound) → n ≤ d
    low (inl l) = omega arith
    low (inr l) = absurd (q l)
