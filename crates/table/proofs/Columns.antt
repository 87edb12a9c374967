-- One record more in the columns: the others are as they were, it is what was put there, and nothing but the columns has changed.
-- Assumes nothing.
use Prim.Native.Nat.{ℕ, suc, ◌+◌, ◌≤◌, ◌<◌}
use native.Mathlib.Omega.{arith}
use native.Mathlib.Nat.{zero-add}
use native.Mathlib.Numerals.{add-one}
use native.Mathlib.Decide.{ℕ_discrete}
use mathlib.Core.Path.{◌≡◌, sym, ◌∙◌, ap}
use mathlib.Core.Logic.{◌≢◌, inl, inr}
use mathlib.Core.Bool.{cond}
use mathlib.Core.List.{List}
use lib.Dec.{eqb}
use borrow.Author.Tests.{ne_eqb}
use lib.ListN.{length, set, length-set}
use Rattle.meaning.specs.Following.{eq, app}
use Rattle.meaning.specs.Joins.{put}
use Rattle.meaning.proofs.Log.{put-hit, put-miss}
use Rattle.meaning.proofs.Reference.{Small}
use Rattle.meaning.specs.Limits.{most_records, most_tags}
use Rattle.table.specs.Map.{left_of, right_of, result_of, rec_at, Loaded, Within}
use Rattle.table.proofs.Frame.{seen-in, seen-out, within-trans, within-set}
use Rattle.table.specs.Places.{EQUATION, LEFT, Large, RESULT, RIGHT, columns_part}

-- The table after the three stores of a record.
abbrev pub stored : List ℕ → ℕ → ℕ → ℕ → ℕ → List ℕ
stored w r a b c = set (set (set w r a) (RIGHT.at + r) b) (RESULT.at + r) c

module _ (w : List ℕ) (r a b c : ℕ) (few : r ≤ most_records) where
  abbrev w₁ : List ℕ
  w₁ = set w r a

  abbrev w₂ : List ℕ
  w₂ = set w₁ (RIGHT.at + r) b

  pub stored-within : Within columns_part w (stored w r a b c)
  stored-within =
      within-trans (within-set columns_part w r a (omega arith) (omega arith))
      (within-trans (within-set columns_part w₁ (RIGHT.at + r) b (omega arith) (omega arith)) (within-set columns_part w₂ (RESULT.at + r) c (omega arith) (omega arith)))

  module _ (long : Large w) where
    l₁ : length w₁ ≡ length w
    l₁ = length-set w r a

    l₂ : length w₂ ≡ length w
    l₂ = length-set w₁ (RIGHT.at + r) b ∙ l₁

    lefts : left_of (stored w r a b c) ≡ put r a (left_of w)
    lefts = seen-out LEFT w₂ (RESULT.at + r) c (inr (omega arith)) ∙ seen-out LEFT w₁ (RIGHT.at + r) b (inr (omega arith))
        ∙ ap (λ (i : ℕ). left_of (set w i a)) (sym (zero-add r)) ∙ seen-in LEFT w r a (omega arith) (omega arith)

    rights : right_of (stored w r a b c) ≡ put r b (right_of w)
    rights = seen-out RIGHT w₂ (RESULT.at + r) c (inr (omega arith)) ∙ seen-in RIGHT w₁ r b (omega arith) (omega (arith, l₁))
        ∙ ap (put r b) (seen-out RIGHT w r a (inl (omega arith)))

    results : result_of (stored w r a b c) ≡ put r c (result_of w)
    results = seen-in RESULT w₂ r c (omega arith) (omega (arith, l₂))
        ∙ ap (put r c) (seen-out RESULT w₁ (RIGHT.at + r) b (inl (omega arith)) ∙ seen-out RESULT w r a (inl (omega arith)))

    pub record-other : (k : ℕ) → k ≢ r → rec_at (stored w r a b c) k ≡ rec_at w k
    record-other k d = rw (lefts, rights, results, put-miss r a (left_of w) k d, put-miss r b (right_of w) k d, put-miss r c (result_of w) k d)

    pub record-here : rec_at (stored w r a b c) r ≡ cond (eqb c EQUATION) (eq a b) (app a b c)
    record-here = rw (lefts, rights, results, put-hit r a (left_of w), put-hit r b (right_of w), put-hit r c (result_of w))

-- Records begin with none, and go on by one that has its tags below N.
pub loaded-none : {N : ℕ} {w : List ℕ} → Large w → 1 ≤ N → N ≤ most_tags → Loaded N 0 w
loaded-none l s m = record { long = l; some = s; few = m; most = omega arith; small = λ k i. absurd (omega arith) }

module _ {N len : ℕ} {w : List ℕ} (L : Loaded N len w) (room : len < most_records) (a b : ℕ) where
  kept : (c : ℕ) → Within columns_part w (stored w (suc len) a b c)
  kept c = stored-within w (suc len) a b c room

  more : (c : ℕ) → Small N (cond (eqb c EQUATION) (eq a b) (app a b c)) → Loaded N (suc len) (stored w (suc len) a b c)
  more c s = record {
    long = omega (arith, (kept c).size, L.long);
    some = L.some;
    few = L.few;
    most = room;
    small = λ k l. go k l (ℕ_discrete k len);
  }
    where
      go : (k : ℕ) → k < suc len → Dec (k ≡ len) → Small N (rec_at (stored w (suc len) a b c) (suc k))
      go k l (yes q) = rw (q, record-here w (suc len) a b c room L.long) s
      go k l (no q) = rw (record-other w (suc len) a b c room L.long (suc k) (λ e. q (omega arith))) (L.small k (omega arith))

  -- As the code has them.
  pub loaded-equation : {w' : List ℕ} → a < N → b < N → w' ≡ stored w (len + 1) a b EQUATION → Loaded N (len + 1) w' × Within columns_part w w'
  loaded-equation x y e = rw (e, add-one len) (more EQUATION (x, y), kept EQUATION)

  pub loaded-application : {w' : List ℕ} (c : ℕ) → a < N → b < N → c < N → w' ≡ stored w (len + 1) a b c → Loaded N (len + 1) w' × Within columns_part w w'
  loaded-application c x y z e = rw (e, add-one len) (more c (rw (ne_eqb c EQUATION (λ e. omega (arith, L.few))) (x, y, z)), kept c)
