-- Pass after pass: the labels are those of `After`, all passes so far changed something, and so there are at most N-1. Assumes nothing.
use Prim.Native.Nat.{ℕ, suc, ◌+◌, ◌≤◌, ◌<◌}
use native.Mathlib.Omega.{arith}
use native.Mathlib.Numerals.{add-one}
use native.Mathlib.Decide.{ℕ_discrete}
use mathlib.Core.Path.{◌≡◌, refl, sym, ◌∙◌, fun_ext, subst}
use mathlib.Core.Logic.{inl}
use mathlib.Core.Bool.{Bool, true, false}
use mathlib.Core.List.{List}
use lib.ListN.{length, get_or}
use Rattle.meaning.specs.Following.{Rec, eq}
use Rattle.meaning.proofs.Reference.{Small}
use Rattle.table.specs.Map.{label_of, saved_of, rec_at, records_in, Loaded, Within}
use Rattle.table.specs.Places.{LABEL, NEXT, PARENT, SAVED, SINCE, all_of, from_to}
use Rattle.table.proofs.Frame.{seen-within, within-refl, within-trans, within_wider, length-gather, get_or-gather}
use Rattle.table.proofs.Kept.{loaded-same, records-same}
use Rattle.table_labels.specs.Parts.{Fresh}
use Rattle.slow_passes.specs.Passes.{After, Changes, Passes}
use Rattle.slow_passes.proofs.Passes.{Exact, still-on, passes-there}
use Rattle.slow_chain.specs.Parts.{Preserved, Restored}
use Rattle.slow_close.specs.Closing.{pass_part, slow_part, All, Frozen, PassDone, Turned, Between, Advanced}
use Rattle.slow_close.proofs.Going.{all_same, frozen_same}

-- The records of the table are those of N tags.
small-in : {N len : ℕ} {w : List ℕ} → Loaded N len w → (i : ℕ) → i < length (records_in len w) → Small N (get_or (records_in len w) i (eq 0 0))
small-in {N} {len} {w} h i l =
    let m : i < len = rw (length-gather (λ k. rec_at w (suc k)) len) at l in
    rw (get_or-gather (λ k. rec_at w (suc k)) len i (eq 0 0) m) (h.small i m)

pub all-wide : {e : ℕ} {w w' : List ℕ} → Within (from_to LABEL.at e) w w' → (len : ℕ) → All len w' ≡ All len w
all-wide {e} f len = rw (records-same (within_wider (from_to PARENT.at e) (omega arith) (omega arith) f) len)

-- A pass, with its labels saved before and put in place behind it.
pub turned : {N len n : ℕ} {w a b w' : List ℕ} {j : Bool} → Preserved w a → PassDone N len n a b j → Restored b w' → Turned N len n w w' j
turned {N} {len} {n} {w} {a} {b} {w'} {j} p d r = record {
  kept = within-trans (wide p.frame) (within-trans (within_wider slow_part (omega arith) (omega arith) d.kept) (within_wider slow_part (omega arith) (omega arith) r.frame));
  frozen = record {
    loaded = loaded-same columns d.frozen.loaded;
    labels = rw r.labels d.labels;
    own = rw r.labels d.own;
    exact = subst (λ (S : Rec → Type 0). Exact (After S (suc n)) (label_of w')) (sym (all-wide r.frame len)) (rw r.labels d.exact);
  };
  still = λ q. r.labels ∙ d.still q ∙ seen-within LABEL d.kept (inl (omega arith)) ∙ seen-within LABEL p.frame (inl (omega arith));
  moved = λ q. rw (← all_same (within_wider pass_part (omega arith) (omega arith) p.frame) len, ← all_same d.kept len) (d.moved q);
}
  where
    wide : {u v : List ℕ} → Within (all_of SAVED) u v → Within slow_part u v
    wide f = within_wider slow_part (omega arith) (omega arith) f

    columns : Within (from_to PARENT.at NEXT.at) b w'
    columns = within_wider (from_to PARENT.at NEXT.at) (omega arith) (omega arith) r.frame

-- Before the first pass.
pub between_start : {N len most : ℕ} {w w' : List ℕ} → Loaded N len w → Fresh w w' → Between N len most w w' 0
between_start {N} {len} {most} {w} {w'} h f = record {
  kept = kept;
  frozen = record {
    loaded = loaded-same (within_wider (from_to PARENT.at SINCE.at) (omega arith) (omega arith) kept) h;
    labels = rw own (record { low = λ x. omega arith; flat = λ x. refl });
    own = λ x l. f.labels x;
    exact = rw own (λ x y. (λ e. e, λ e. e));
  };
  low = omega arith;
  changing = λ j l. absurd (omega arith);
}
  where
    kept : Within slow_part w w'
    kept = within_wider slow_part (omega arith) (omega arith) f.frame

    own : label_of w' ≡ (λ x. x)
    own = fun_ext f.labels

-- The labels are those after n passes of the records that the call began with.
now-exact : {N len most n : ℕ} {w w' : List ℕ} → Between N len most w w' n → Exact (After (All len w) n) (label_of w')
now-exact {len = len} b = rw (← all-wide b.kept len) b.frozen.exact

-- As many passes were made as were asked for.
pub advanced-all : {N len most n : ℕ} {w w' : List ℕ} → Between N len most w w' n → Loaded N len w → most ≤ n → Advanced N len most w w' n
advanced-all {N} {len} {most} {n} {w} b h l =
    let r = passes-there N (records_in len w) (small-in h) h.some in
    let z : ¬ (r.0 < n) = λ k. r.2.still r.0 (omega arith) (b.changing r.0 k) in
    record { kept = b.kept; count = r.0; passes = r.2; made = omega (arith, b.low); labels = b.frozen.labels; exact = now-exact b }

-- One pass more.
module _ {N len most n : ℕ} {w w' w'' : List ℕ} {j : Bool} (b : Between N len most w w' n) (t : Turned N len n w' w'' j) where
  kept_on : Within slow_part w w''
  kept_on = within-trans b.kept (within_wider slow_part (omega arith) (omega arith) t.kept)

  moved_here : j ≡ true → Changes (All len w) n
  moved_here q = rw (← all-wide b.kept len) (t.moved q)

  changing-on : j ≡ true → (i : ℕ) → i < suc n → Dec (i ≡ n) → Changes (All len w) i
  changing-on q i l (yes e) = rw e (moved_here q)
  changing-on q i l (no e) = b.changing i (omega arith)

  pub between_next : j ≡ true → n < most → Between N len most w w'' (n + 1)
  between_next q l = rw add-one (record { kept = kept_on; frozen = t.frozen; low = l; changing = λ i k. changing-on q i k (ℕ_discrete i n) })

  -- Nothing changed.
  next-exact : j ≡ false → Exact (After (All len w) (suc n)) (label_of w')
  next-exact q = subst (λ (S : Rec → Type 0). Exact (After S (suc n)) (label_of w')) (all-wide kept_on len) (rw (← t.still q) t.frozen.exact)

  no_change : j ≡ false → Changes (All len w) n → ⊥
  no_change q c = c.apart ((now-exact b c.one c.other).1 ((next-exact q c.one c.other).0 c.together))

  counted : Loaded N len w → j ≡ false → Passes (All len w) n
  counted h q = record { changing = b.changing; still = λ i l. still-on N (records_in len w) (small-in h) n i (no_change q) l }

  pub advanced-still : Loaded N len w → j ≡ false → Advanced N len most w w'' n
  advanced-still h q = record {
    kept = kept_on;
    count = n;
    passes = counted h q;
    made = omega (arith, b.low);
    labels = rw (t.still q) b.frozen.labels;
    exact = rw (t.still q) (now-exact b);
  }

-- The loop begins with the table that the call before it left.
pub begun : {N len most : ℕ} {w w' : List ℕ} → Loaded N len w → Fresh w w' → Loaded N len w' × Between N len most w' w' 0
begun {N} {len} {most} {w} {w'} h f =
    let b : Between N len most w w' 0 = between_start h f in
    (b.frozen.loaded, record { kept = within-refl w'; frozen = b.frozen; low = omega arith; changing = λ j l. absurd (omega arith) })

pub advanced-from : {N len most c : ℕ} {w a b : List ℕ} → Fresh w a → Advanced N len most a b c → Advanced N len most w b c
advanced-from {N} {len} {most} {c} {w} {a} {b} h s = record {
  kept = within-trans f s.kept;
  count = s.count;
  passes = rw (all-wide f len) at s.passes;
  made = s.made;
  labels = s.labels;
  exact = rw (all-wide f len) at s.exact;
}
  where
    f : Within slow_part w a
    f = within_wider slow_part (omega arith) (omega arith) h.frame

-- What a pass begins with.
pub saved-as : {N len n : ℕ} {w a : List ℕ} → Frozen N len n w → Preserved w a → Frozen N len n a × (saved_of a ≡ label_of a)
saved-as h p = (frozen_same (within_wider pass_part (omega arith) (omega arith) p.frame) h, p.saved ∙ sym (seen-within LABEL p.frame (inl (omega arith))))
