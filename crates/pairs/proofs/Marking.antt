-- A pair that is marked stands behind those that were marked before it, which stay as they were; and the first whose number has been reached is the
-- earliest that is broken.
-- Assumes nothing.
use Prim.Native.Nat.{ℕ, suc, ◌+◌, ◌-◌, ◌≤◌, ◌<◌}
use native.Mathlib.Omega.{arith}
use native.Mathlib.Decide.{ℕ_discrete, dec_lt}
use mathlib.Core.Path.{◌≡◌, subst}
use mathlib.Core.Logic.{inr}
use mathlib.Core.List.{List, [], ◌∷◌, ◌++◌, append-nil}
use lib.ListN.{length, get_or, set, length-append, get_or-append}
use lib.Seq.{get_or-append_seam}
use Rattle.meaning.specs.Following.{Rec}
use Rattle.meaning.specs.Limits.{most_differs}
use Rattle.meaning.specs.Reasons.{FirstAt}
use Rattle.meaning.specs.Joins.{put}
use Rattle.meaning.proofs.Log.{put-hit, put-miss}
use Rattle.job_field.specs.Items.{Pair, Note, differ, pairs_noted}
use Rattle.table.specs.Map.{rec_at, since_of, Within}
use Rattle.table.specs.Places.{Large, Part, SINCE, all_of}
use Rattle.table.proofs.Frame.{seen-in, seen-within, within-refl, within-set, length-gather}
use Rattle.report.specs.Broken.{pair_no, Broken, Earliest, Unbroken}
use Rattle.pairs.specs.Came.{Came}
use Rattle.pairs.specs.Marks.{Marked, Stored, Noted, Scanned, hit, none}
use Rattle.pairs.proofs.Coming.{came-equal, came-apart, came-first}

-- A pair by its place.
pair_place : (ps : List Pair) (j : ℕ) → pair_no ps (j + 1) ≡ get_or ps j (record { first = 0; second = 0 })
pair_place ps j = let e : j + 1 - 1 ≡ j = omega arith in rw e

-- Those before another pair keep their numbers.
pair-before : (ps : List Pair) (p : Pair) (j : ℕ) → j < length ps → pair_no (ps ++ (p ∷ [])) (j + 1) ≡ pair_no ps (j + 1)
pair-before ps p j l = rw (pair_place (ps ++ (p ∷ [])) j, pair_place ps j) (get_or-append ps (p ∷ []) (record { first = 0; second = 0 }) j l)

pair-last : (ps : List Pair) (p : Pair) (j : ℕ) → j ≡ length ps → pair_no (ps ++ (p ∷ [])) (j + 1) ≡ p
pair-last ps p j e = rw (pair_place (ps ++ (p ∷ [])) j, e) (get_or-append_seam ps p [] (record { first = 0; second = 0 }))

-- What is kept of the pairs, where nothing is written there.
pub marked-kept : {rs : List Rec} {ps : List Pair} {p : Part} {w w' : List ℕ} → Within p w w' → p.upto ≤ SINCE.at → Marked rs ps w → Marked rs ps w'
marked-kept f h m = record { each = λ j l. let e = seen-within SINCE f (inr h) in rw e (m.each j l) }

-- A note that has no pair, and one that has.
pub noted-none : (w : List ℕ) (len i : ℕ) (n : Note) → pairs_noted n ≡ [] → Noted w w len i n
noted-none w len i n e = record { kept = within-refl w; marks = λ ps k m. rw (e, append-nil ps) m }

marked_more : {rs : List Rec} (ps : List Pair) (s t number : ℕ) {w w' : List ℕ} → length ps < most_differs → Large w → w' ≡ set w (SINCE.at + length ps) number → Came rs (length rs) s t number
    → Marked rs ps w → Marked rs (ps ++ (record { first = s; second = t } ∷ [])) w'
marked_more {rs} ps s t number {w} {w'} few long e c m = record { each = λ j l. go j l (ℕ_discrete j (length ps)) }
  where
    p : Pair
    p = record { first = s; second = t }

    stored : since_of w' ≡ put (length ps) number (since_of w)
    stored = rw e (seen-in SINCE w (length ps) number few (omega arith))

    go : (j : ℕ) → j < length (ps ++ (p ∷ [])) → Dec (j ≡ length ps) → Came rs (length rs) (pair_no (ps ++ (p ∷ [])) (j + 1)).first (pair_no (ps ++ (p ∷ [])) (j + 1)).second (since_of w' j)
    go j l (yes q) = rw (pair-last ps p j q, stored, q, put-hit (length ps) number (since_of w)) c
    go j l (no q) =
        let before : j < length ps = omega (arith, length-append ps (p ∷ [])) in
        rw (pair-before ps p j before, stored, put-miss (length ps) number (since_of w) j q) (m.each j before)

pub noted-pair : {w w' : List ℕ} {len i s t : ℕ} → i < most_differs → Large w → Stored w w' len i s t → Noted w w' len i (differ s t)
noted-pair {w} {w'} {len} {i} {s} {t} few long d = record {
  kept = rw d.stored (within-set (all_of SINCE) w (SINCE.at + i) d.number (omega arith) (omega arith));
  marks = λ ps e m. marked_more ps s t d.number (omega arith) long (rw e d.stored) (rw (length-gather (λ k. rec_at w (suc k)) len) d.came) m;
}

by_number : (j : ℕ) → 1 ≤ j → j ≡ j - 1 + 1
by_number j h = omega arith

-- The scan finds the earliest pair that is broken, or that none is.
module _ {rs : List Rec} {ps : List Pair} {w : List ℕ} (more : List Pair) (m : Marked rs ps w) (R : ℕ) (l : R ≤ length rs) where
  -- A pair by its number, and its number in the table.
  front : (j : ℕ) → j < length ps → pair_no (ps ++ more) (j + 1) ≡ pair_no ps (j + 1)
  front j k = rw (pair_place (ps ++ more) j, pair_place ps j) (get_or-append ps more (record { first = 0; second = 0 }) j k)

  is-broken : (j : ℕ) → j < length ps → since_of w j ≤ R → Broken rs R (pair_no (ps ++ more) (j + 1))
  is-broken j k h = rw (front j k) (came-equal (m.each j k) R l h)

  not-broken : (j : ℕ) → j < length ps → R < since_of w j → Broken rs R (pair_no (ps ++ more) (j + 1)) → ⊥
  not-broken j k h f = came-apart (m.each j k) R l h (rw (front j k) at f)

  below : (k j : ℕ) → k ≤ length ps → ((i : ℕ) → i < k → R < since_of w i) → 1 ≤ j → j ≤ k → Broken rs R (pair_no (ps ++ more) j) → ⊥
  below k j q low a b f = not-broken (j - 1) (omega arith) (low (j - 1) (omega arith)) (rw (by_number j a) at f)

  pub scanned-some : {k : ℕ} → Scanned w (length ps) R k → 1 ≤ k → Earliest rs R (ps ++ more) (length ps) k
  scanned-some (hit {j = j} e h a low) s = record {
    number = s;
    before = omega arith;
    broken = rw e (is-broken j h a);
    first = λ i x y. below j i (omega arith) low x (omega arith);
  }
  scanned-some (none e low) s = absurd (omega arith)

  pub scanned-none : {k : ℕ} → Scanned w (length ps) R k → k ≡ 0 → Unbroken rs R (ps ++ more) (length ps)
  scanned-none (hit e h a low) s = absurd (omega arith)
  scanned-none (none e low) s = λ j x y. below (length ps) j (omega arith) low x y

  pub scanned-first : {k : ℕ} → Scanned w (length ps) R k → 1 ≤ k → (since_of w (k - 1) ≤ R) × FirstAt rs (pair_no (ps ++ more) k).first (pair_no (ps ++ more) k).second (since_of w (k - 1))
  scanned-first (hit {j = j} e h a low) s =
      let i : j ≡ j + 1 - 1 = omega arith in
      let p = pair_no (ps ++ more) (j + 1) in
      let c : FirstAt rs p.first p.second (since_of w j) = rw (front j h) (came-first (m.each j h) R l a) in
      rw e (subst (λ (n : ℕ). since_of w n ≤ R) i a, subst (λ (n : ℕ). FirstAt rs p.first p.second (since_of w n)) i c)
  scanned-first (none e low) s = absurd (omega arith)

-- One step of the scan.
pub scan-next : (w : List ℕ) {R i v : ℕ} → ((j : ℕ) → j < i → R < since_of w j) → v ≡ since_of w i → R < v → (j : ℕ) → j < i + 1 → R < since_of w j
scan-next w {R} {i} h e l j k = go (dec_lt j i)
  where
    go : Dec (j < i) → R < since_of w j
    go (yes m) = h j m
    go (no m) = let q : j ≡ i = omega arith in rw (q, ← e) l
