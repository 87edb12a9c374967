-- Two labels to come are joined. Assumes nothing.
use Prim.Native.Nat.{ℕ, ◌≤◌, ◌<◌}
use native.Mathlib.Omega.{arith}
use mathlib.Core.Path.{◌≡◌, refl, sym, ◌∙◌, fun_ext, subst}
use mathlib.Core.Logic.{◌≢◌, inl}
use mathlib.Core.Bool.{true, false}
use mathlib.Core.List.{List}
use borrow.Author.Tests.{lt-ltb, le-ltb}
use Rattle.meaning.specs.Labels.{Labels, into}
use Rattle.meaning.proofs.Relabel.{into-miss}
use Rattle.table.specs.Map.{saved_of, Within}
use Rattle.table.specs.Places.{SAVED, all_of}
use Rattle.table.proofs.Frame.{within-refl}
use Rattle.table_labels.specs.Parts.{Own}
use Rattle.slow_passes.proofs.Passes.{United, unite, unite-united}
use Rattle.slow_chain.specs.Parts.{NewLabelled}
use Rattle.slow_close.specs.Closing.{NewMet}

-- Two tags whose labels to come are one, or become one.
module _ {w : List ℕ} {N s t : ℕ} (L : Labels (saved_of w)) (own : Own N (saved_of w)) (s-tag : s < N) (t-tag : t < N) where
  pub met-level : saved_of w s ≡ saved_of w t → NewMet w w N s t false
  met-level e = record {
    frame = within-refl w;
    united = record { labels = L; keeps = λ x y q. q; ends = e; only = λ x y q. inl q };
    own = own;
    level = λ _. refl;
    apart = λ z. let y : ◌≡◌ {A = ℕ} 0 1 = cc z in absurd (omega (arith, y));
  }

  joined : {w' : List ℕ} → Within (all_of SAVED) w w' → saved_of w' ≡ unite s t (saved_of w) → saved_of w s ≢ saved_of w t → ((x : ℕ) → N ≤ x → unite s t (saved_of w) x ≡ x) → NewMet w w' N s t true
  joined {w'} f e d o = record {
    frame = f;
    united = subst (λ (g : ℕ → ℕ). United (saved_of w) g s t) (sym e) (unite-united (saved_of w) L s t);
    own = λ x l. rw e (o x l);
    level = λ z. let y : ◌≡◌ {A = ℕ} 0 1 = cc z in absurd (omega (arith, y));
    apart = λ _. d;
  }

  pub met-up : {w' : List ℕ} {a b : ℕ} → a ≡ saved_of w s → b ≡ saved_of w t → a < b → NewLabelled w w' a b → NewMet w w' N s t true
  met-up {w'} {a} {b} ea eb l h =
      let k : saved_of w s < saved_of w t = omega arith in
      let u : (λ x. into (saved_of w s) (saved_of w t) (saved_of w x)) ≡ unite s t (saved_of w) = fun_ext (λ x. rw (lt-ltb (saved_of w s) (saved_of w t) k)) in
      joined h.frame (rw (ea, eb) at h.labels ∙ u) (omega arith) (λ x m. rw (lt-ltb (saved_of w s) (saved_of w t) k, own x m) (into-miss (saved_of w s) (saved_of w t) x (omega (arith, L.low t))))

  pub met-down : {w' : List ℕ} {a b : ℕ} → a ≡ saved_of w s → b ≡ saved_of w t → b < a → NewLabelled w w' b a → NewMet w w' N s t true
  met-down {w'} {a} {b} ea eb l h =
      let k : saved_of w t ≤ saved_of w s = omega arith in
      let u : (λ x. into (saved_of w t) (saved_of w s) (saved_of w x)) ≡ unite s t (saved_of w) = fun_ext (λ x. rw (le-ltb (saved_of w s) (saved_of w t) k)) in
      joined h.frame (rw (ea, eb) at h.labels ∙ u) (omega arith) (λ x m. rw (le-ltb (saved_of w s) (saved_of w t) k, own x m) (into-miss (saved_of w t) (saved_of w s) x (omega (arith, L.low s))))
