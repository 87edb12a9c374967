-- The walk over the fields to the first of kind 02. Assumes nothing.
use Prim.Native.Nat.{ℕ, suc, ◌+◌, ◌-◌, ◌≤◌, ◌<◌}
use native.Mathlib.Omega.{arith}
use mathlib.Core.Path.{◌≡◌, refl, sym, ◌∙◌}
use mathlib.Core.Logic.{◌≢◌}
use mathlib.Core.Bool.{Bool, true, false, cond, ◌&&◌}
use mathlib.Core.List.{List}
use lib.Dec.{eqb, leb}
use lib.ListN.{length}
use borrow.Author.Tests.{lt-ltb, le-ltb, le-leb, lt-leb, ne_eqb, eqb-true, leb-true}
use Rattle.job_field.specs.Reading.{Kind, kind_later, kind_by_edition, sheeted_in, kind_at, byte_at, length_at, behind_at, Field, bad, header, item, end, field_standing}
use Rattle.job_field.proofs.Reading.{and-true, field-whole}
use Rattle.harness_read.specs.Profile.{none, some, is_apply, marked, ends_at, apply_from, place_in}

-- The test of a place.
module _ (job : List ℕ) (at : ℕ) where
  pub mark-cut : length job < at + 3 → false ≡ marked job at
  unfolding marked
  mark-cut l = rw (lt-leb (at + 3) (length job) l) refl

  pub mark-first : at ≡ 0 → false ≡ marked job at
  unfolding marked
  mark-first e = rw e (go (leb 3 (length job)) (eqb (byte_at job 0) 16) (eqb (length_at job 0) 4) (eqb (byte_at job 0) 17))
    where
      go : (b c d s : Bool) → false ≡ (b && is_apply (cond c (cond d Kind.first-units Kind.first) (cond s Kind.first-sheets Kind.unknown)))
      go true true true s = refl
      go true true false s = refl
      go true false d true = refl
      go true false d false = refl
      go false c d s = refl

  pub mark-byte : at + 3 ≤ length job → at ≢ 0 → eqb (byte_at job at) 2 ≡ marked job at
  unfolding marked
  mark-byte l n = rw (le-leb (at + 3) (length job) l, ne_eqb at 0 n) (either (sheeted_in job))
    where
      rest : (p q r s t u v : Bool) → p ≡ is_apply (cond p Kind.record-app (cond q Kind.question-ask (cond r Kind.question-explain (cond s Kind.note-differ (cond t Kind.question-broken (cond u Kind.question-why (cond v Kind.last Kind.unknown)))))))
      rest true q r s t u v = refl
      rest false true r s t u v = refl
      rest false false true s t u v = refl
      rest false false false true t u v = refl
      rest false false false false true u v = refl
      rest false false false false false true v = refl
      rest false false false false false false true = refl
      rest false false false false false false false = refl

      go : (b : ℕ) (c : Bool) → eqb b 1 ≡ c → eqb b 2 ≡ is_apply (cond c Kind.record-eq (cond (eqb b 2) Kind.record-app (cond (eqb b 3) Kind.question-ask (cond (eqb b 4) Kind.question-explain (cond (eqb b 5) Kind.note-differ (cond (eqb b 6) Kind.question-broken (cond (eqb b 7) Kind.question-why (cond (eqb b 127) Kind.last Kind.unknown))))))))
      go b true e = ne_eqb b 2 (λ q. omega (arith, eqb-true b 1 e))
      go b false e = rest (eqb b 2) (eqb b 3) (eqb b 4) (eqb b 5) (eqb b 6) (eqb b 7) (eqb b 127)

      sheets : (b : ℕ) (c d : Bool) → eqb b 1 ≡ c → eqb b 2 ≡ d → d ≡ is_apply (cond c Kind.sheeted-eq (cond d Kind.sheeted-app (kind_later b)))
      sheets b true true e f = let z : ◌≡◌ {A = ℕ} 0 1 = omega (arith, eqb-true b 1 e, eqb-true b 2 f) in absurd (omega arith)
      sheets b true false e f = refl
      sheets b false true e f = refl
      sheets b false false e f = sym f ∙ go b (eqb b 1) refl

      either : (s : Bool) → eqb (byte_at job at) 2 ≡ is_apply (kind_by_edition s (byte_at job at))
      either true = sheets (byte_at job at) (eqb (byte_at job at) 1) (eqb (byte_at job at) 2) refl refl
      either false = go (byte_at job at) (eqb (byte_at job at) 1) refl

  mark-there : marked job at ≡ true → at + 3 ≤ length job
  unfolding marked
  mark-there q = leb-true (at + 3) (length job) (and-true (leb (at + 3) (length job)) (is_apply (kind_at (sheeted_in job) at (byte_at job at) (length_at job at))) q).0

-- Where the walk stands.
pub record Walking (job : List ℕ) (at : ℕ) : Type 0 where
  pub within : at ≤ length job
  pub fuel : ℕ
  pub enough : length job < at + fuel
  pub same : apply_from fuel job at ≡ apply_from (suc (length job)) job 0

pub walk_start : (job : List ℕ) → Walking job 0
walk_start job = record { within = omega arith; fuel = suc (length job); enough = omega arith; same = refl }

module _ {job : List ℕ} {at : ℕ} (h : Walking job at) where
  abbrev m : ℕ
  m = h.fuel - 1

  more : h.fuel ≡ suc m
  more = omega (arith, h.within, h.enough)

  opened : cond (marked job at) (some at) (cond (ends_at (field_standing job at)) none (apply_from m job (behind_at job at))) ≡ apply_from (suc (length job)) job 0
  unfolding apply_from
  opened = rw more at h.same

  -- A field of kind 02: the walk ends there.
  pub walk-found : true ≡ marked job at → place_in (length job) at ≡ apply_from (suc (length job)) job 0
  walk-found e =
      let q : marked job at ≡ true = sym e in
      let l = mark-there job at q in
      rw (lt-ltb at (length job) (omega arith)) (rw q at opened)

  -- No other field follows: there is none.
  pub walk_none : {g : Field} {r : Bool} → false ≡ marked job at → g ≡ field_standing job at → r ≡ ends_at g → r ≡ true → place_in (length job) (length job) ≡ apply_from (suc (length job)) job 0
  walk_none {g} {r} e f q z =
      let o : ends_at (field_standing job at) ≡ true = rw f at (sym q ∙ z) in
      rw (le-ltb (length job) (length job) (omega arith)) (rw (sym e, o) at opened)

  -- The next field.
  whole : (g : Field) → field_standing job at ≡ g → ends_at g ≡ false → behind_at job at ≤ length job
  whole (bad n) f z = let o : ◌≡◌ {A = ℕ} 0 1 = cc z in absurd (omega arith)
  whole (header M) f z = field-whole job at (header M) tt f
  whole (item i) f z = field-whole job at (item i) tt f
  whole end f z = let o : ◌≡◌ {A = ℕ} 0 1 = cc z in absurd (omega arith)

  pub walk-next : {g : Field} {r : Bool} {x : ℕ} → false ≡ marked job at → g ≡ field_standing job at → r ≡ ends_at g → r ≡ false → x ≡ behind_at job at → (at + 3 ≤ x) × Walking job x
  walk-next {g} {r} {x} e f q z b =
      let o : ends_at (field_standing job at) ≡ false = rw f at (sym q ∙ z) in
      let l : behind_at job at ≤ length job = whole (field_standing job at) refl o in
      let s : apply_from m job (behind_at job at) ≡ apply_from (suc (length job)) job 0 = rw (sym e, o) at opened in
      (omega arith, record { within = omega arith; fuel = m; enough = omega (arith, h.enough, more); same = rw b s })
