-- A search goes down a chain and jumps over nothing that passes its test. One law for names and parts. Assumes nothing.
use Prim.Native.Nat.{ℕ, zero, suc, ◌-◌, ◌≤◌, ◌<◌}
use native.Mathlib.Omega.{arith}
use mathlib.Core.Path.{◌≡◌, refl, sym, ◌∙◌, ap, subst}
use mathlib.Core.Logic.{◌≢◌}
use mathlib.Core.Bool.{Bool, true, false, cond}
use mathlib.Core.List.{List}
use lib.Dec.{T, eqb, eqb→eq, eqb_refl}
use lib.ListN.{length, get_or}
use Rattle.script_shelf.specs.Chain.{last_of}
use Rattle.script_shelf.proofs.Chains.{last-most, last-skip, last-fail, last-hit}
use Rattle.script_shelf.specs.Keys.{last_with, links, heads, Chain}
use Rattle.script_shelf.proofs.Keys.{last-same, head_at, link_at}

-- j is one more than the next to look at, or 0.
pub record Seeking (f : ℕ → Bool) (key : ℕ → ℕ) (n x j : ℕ) : Type 0 where
  pub most : j ≤ n
  pub at : (k : ℕ) → j ≡ suc k → key k ≡ x
  pub is : last_of f n ≡ last_of f j

pub last-is : (f : ℕ → Bool) (n k : ℕ) → last_of f n ≡ suc k → T (f k)
last-is f zero k e = absurd (omega arith)
last-is f (suc n) k e = go (f n) refl e (last-is f n k)
  where
    go : (b : Bool) → f n ≡ b → cond b (suc n) (last_of f n) ≡ suc k → (last_of f n ≡ suc k → T (f k)) → T (f k)
    go true q e i = let z : n ≡ k = omega arith in subst (λ k. T (f k)) z (rw q tt)
    go false q e i = i e

-- None passes, if the last is none.
pub last_none : (f : ℕ → Bool) (n : ℕ) → last_of f n ≡ 0 → (k : ℕ) → k < n → T (f k) → ⊥
last_none f zero e k h t = omega arith
last_none f (suc n) e k h t = go (f n) refl e (last_none f n)
  where
    go : (b : Bool) → f n ≡ b → cond b (suc n) (last_of f n) ≡ 0 → (last_of f n ≡ 0 → (k : ℕ) → k < n → T (f k) → ⊥) → ⊥
    go true q e i = omega arith
    go false q e i = i e k (let d : k ≢ n = λ z. subst T q (subst (λ k. T (f k)) z t) in omega arith) t

module _ (f : ℕ → Bool) {key next : ℕ → ℕ} {n x head : ℕ} (same : (k : ℕ) → T (f k) → key k ≡ x) (C : Chain key next n x head) where
  keyed : (k : ℕ) → T (f k) → T (eqb (key k) x)
  keyed k t = rw (same k t) (eqb_refl x)

  on : (m j : ℕ) → m ≤ n → last_of f n ≡ last_of f m → j ≡ last_of (λ i. eqb (key i) x) m → Seeking f key n x j
  on m j l e q = record {
    most = omega (arith, last-most (λ i. eqb (key i) x) m);
    at = λ k z. eqb→eq _ _ (last-is (λ i. eqb (key i) x) m k (sym q ∙ z));
    is = e ∙ last-skip f (λ i. eqb (key i) x) keyed m ∙ ap (last_of f) (sym q);
  }

  pub seek-start : Seeking f key n x head
  seek-start = on n head (omega arith) refl C.head-is

  pub seek-on : {j : ℕ} → j ≢ 0 → Seeking f key n x j → (T (f (j - 1)) → ⊥) → Seeking f key n x (next (j - 1))
  seek-on {j = zero} d Z h = absurd (d refl)
  seek-on {j = suc k} d Z h = rw (let e : suc k - 1 ≡ k = omega arith in e) (on k (next k) (omega (arith, Z.most)) (Z.is ∙ last-fail f k (subst (λ i. T (f i) → ⊥) (let e : suc k - 1 ≡ k = omega arith in e) h)) (C.links-are k Z.most ∙ ap (λ y. last_of (λ i. eqb (key i) y) k) (Z.at k refl)))

  pub seek_hit : {j : ℕ} → j ≢ 0 → Seeking f key n x j → T (f (j - 1)) → j ≡ last_of f n
  seek_hit {j = zero} d Z t = absurd (d refl)
  seek_hit {j = suc k} d Z t = sym (Z.is ∙ last-hit f k (subst (λ i. T (f i)) (let e : suc k - 1 ≡ k = omega arith in e) t))

  pub seek-none : {j : ℕ} → j ≡ 0 → Seeking f key n x j → 0 ≡ last_of f n
  seek-none e Z = sym (Z.is ∙ ap (last_of f) e)

-- The columns of links and heads make a chain, for whoever has the keys another way.
pub chained : {key next : ℕ → ℕ} (ks : List ℕ) (x : ℕ) {n head : ℕ} → n ≡ length ks → ((i : ℕ) → i < n → get_or ks i 0 ≡ key i) → ((k : ℕ) → k < n → next k ≡ get_or (links ks) k 0) → x < 509 → head ≡ get_or (heads ks) x 0
    → Chain key next n x head
unfolding last_with
chained {key} {next} ks x {n} {head} e same l b h = record {
  links-are = λ k c. l k c ∙ link_at ks k (subst (λ n. k < n) e c) ∙ last-same _ _ k (λ i d. rw (same i (omega arith), same k c));
  head-is = h ∙ head_at ks x b ∙ ap (last_of (λ i. eqb (get_or ks i 0) x)) (sym e) ∙ last-same _ _ n (λ i d. rw (same i d));
}
