-- A join makes those wait of which an argument label changes, so those that do not wait agree as before. One that waits goes on if one that does not has its argument labels and its
-- result label, or if there is none with its argument labels. Where none waits the labels are closed. Assumes nothing.
use Prim.Native.Nat.{ℕ}
use native.Mathlib.Decide.{ℕ_discrete}
use mathlib.Core.Path.{◌≡◌, sym, ap, ◌∙◌}
use mathlib.Core.Logic.{◌≢◌, inl, inr}
use Rattle.meaning.specs.Following.{Rec, eq, app, Follows, flip, chain}
use Rattle.meaning.specs.Labels.{into}
use Rattle.meaning.proofs.Close.{Closed, complete}
use Rattle.meaning.proofs.Relabel.{into-hit, into-miss}
use Rattle.list_ways.specs.Adding.{Resting, Uses}

module _ {P W : ℕ → Type 0} {a b c f : ℕ → ℕ} where
  -- x becomes y.
  pub rest-join : {W' : ℕ → Type 0} (x y : ℕ) → ((i : ℕ) → W i → W' i) → ((i : ℕ) → P i → Uses x a b f i → W' i) → Resting P W a b c f → Resting P W' a b c (λ z. into y x (f z))
  rest-join {W'} x y more touched r = record { agree = λ i j p q u v d e. ap (into y x) (r.agree i j p q (λ w. u (more i w)) (λ w. v (more j w)) (back i j p q u v d) (back' i j p q u v e)) }
    where
      off : (i : ℕ) → P i → (W' i → ⊥) → (f (a i) ≢ x) × (f (b i) ≢ x)
      off i p u = ((λ e. u (touched i p (inl e))), λ e. u (touched i p (inr e)))

      back : (i j : ℕ) → P i → P j → (W' i → ⊥) → (W' j → ⊥) → into y x (f (a i)) ≡ into y x (f (a j)) → f (a i) ≡ f (a j)
      back i j p q u v d = sym (into-miss y x (f (a i)) (off i p u).0) ∙ d ∙ into-miss y x (f (a j)) (off j q v).0

      back' : (i j : ℕ) → P i → P j → (W' i → ⊥) → (W' j → ⊥) → into y x (f (b i)) ≡ into y x (f (b j)) → f (b i) ≡ f (b j)
      back' i j p q u v d = sym (into-miss y x (f (b i)) (off i p u).1) ∙ d ∙ into-miss y x (f (b j)) (off j q v).1

  -- k no longer waits: q, which does not wait, has its argument labels and its result label.
  pub rest-found : {W' : ℕ → Type 0} (k q : ℕ) → ((i : ℕ) → i ≢ k → W i → W' i) → P q → (W q → ⊥) → f (a k) ≡ f (a q) → f (b k) ≡ f (b q) → f (c k) ≡ f (c q)
      → Resting P W a b c f → Resting P W' a b c f
  rest-found {W'} k q others p n d e g r = record { agree = λ i j x y u v s t. go i j x y u v s t (ℕ_discrete i k) (ℕ_discrete j k) }
    where
      go : (i j : ℕ) → P i → P j → (W' i → ⊥) → (W' j → ⊥) → f (a i) ≡ f (a j) → f (b i) ≡ f (b j) → Dec (i ≡ k) → Dec (j ≡ k) → f (c i) ≡ f (c j)
      go i j x y u v s t (yes h) (yes l) = ap (λ (z : ℕ). f (c z)) (h ∙ sym l)
      go i j x y u v s t (no h) (no l) = r.agree i j x y (λ w. u (others i h w)) (λ w. v (others j l w)) s t
      go i j x y u v s t (yes h) (no l) = ap (λ (z : ℕ). f (c z)) h ∙ g ∙ r.agree q j p y n (λ w. v (others j l w)) (sym d ∙ sym (ap (λ (z : ℕ). f (a z)) h) ∙ s) (sym e ∙ sym (ap (λ (z : ℕ). f (b z)) h) ∙ t)
      go i j x y u v s t (no h) (yes l) = r.agree i q x p (λ w. u (others i h w)) n (s ∙ ap (λ (z : ℕ). f (a z)) l ∙ d) (t ∙ ap (λ (z : ℕ). f (b z)) l ∙ e) ∙ sym g ∙ sym (ap (λ (z : ℕ). f (c z)) l)

  -- Or none that does not wait has its argument labels.
  pub rest-new : {W' : ℕ → Type 0} (k : ℕ) → ((i : ℕ) → i ≢ k → W i → W' i) → ((q : ℕ) → P q → (W q → ⊥) → f (a k) ≡ f (a q) → f (b k) ≡ f (b q) → ⊥) → Resting P W a b c f → Resting P W' a b c f
  rest-new {W'} k others alone r = record { agree = λ i j x y u v s t. go i j x y u v s t (ℕ_discrete i k) (ℕ_discrete j k) }
    where
      go : (i j : ℕ) → P i → P j → (W' i → ⊥) → (W' j → ⊥) → f (a i) ≡ f (a j) → f (b i) ≡ f (b j) → Dec (i ≡ k) → Dec (j ≡ k) → f (c i) ≡ f (c j)
      go i j x y u v s t (yes h) (yes l) = ap (λ (z : ℕ). f (c z)) (h ∙ sym l)
      go i j x y u v s t (no h) (no l) = r.agree i j x y (λ w. u (others i h w)) (λ w. v (others j l w)) s t
      go i j x y u v s t (yes h) (no l) = absurd (alone j y (λ w. v (others j l w)) (sym (ap (λ (z : ℕ). f (a z)) h) ∙ s) (sym (ap (λ (z : ℕ). f (b z)) h) ∙ t))
      go i j x y u v s t (no h) (yes l) = absurd (alone i x (λ w. u (others i h w)) (sym (ap (λ (z : ℕ). f (a z)) l) ∙ sym s) (sym (ap (λ (z : ℕ). f (b z)) l) ∙ sym t))

  -- One more comes in, and waits; and one that is out goes nowhere.
  pub rest-add : {P' W' : ℕ → Type 0} (k : ℕ) → ((i : ℕ) → i ≢ k → P' i → P i) → ((i : ℕ) → W i → W' i) → W' k → Resting P W a b c f → Resting P' W' a b c f
  rest-add {P'} {W'} k old more waits r = record { agree = λ i j p q u v s t. r.agree i j (old i (λ e. u (rw e waits)) p) (old j (λ e. v (rw e waits)) q) (λ w. u (more i w)) (λ w. v (more j w)) s t }

  -- None waits, and every application of S is in: the labels are closed under S.
  pub rest-closed : {S : Rec → Type 0} → ((i : ℕ) → W i → ⊥) → ((x y : ℕ) → S (eq x y) → f x ≡ f y) → ((x y z : ℕ) → S (app x y z) → (i : ℕ) × P i × (a i ≡ x) × (b i ≡ y) × (c i ≡ z)) → Resting P W a b c f → Closed S f
  rest-closed {S} idle equal in' r = record { equal = λ i. equal _ _ i; apart = λ {a = x} {b = y} {c = z} {a' = x'} {b' = y'} {c' = z'} i j p q. both (in' x y z i) (in' x' y' z' j) p q }
    where
      both : {x y z x' y' z' : ℕ} → (i : ℕ) × P i × (a i ≡ x) × (b i ≡ y) × (c i ≡ z) → (j : ℕ) × P j × (a j ≡ x') × (b j ≡ y') × (c j ≡ z') → f x ≡ f x' → f y ≡ f y' → f z ≡ f z'
      both u v p q = sym (ap f u.4) ∙ r.agree u.0 v.0 u.1 v.1 (idle u.0) (idle v.0) (ap f u.2 ∙ p ∙ sym (ap f v.2)) (ap f u.3 ∙ q ∙ sym (ap f v.3)) ∙ ap f v.4

-- Sound labels stay so by a join of two that follow.
pub sound-join : {S : Rec → Type 0} {f : ℕ → ℕ} {x y : ℕ} → Follows S x y → ((z : ℕ) → Follows S z (f z)) → (z : ℕ) → Follows S z (into y x (f z))
sound-join {S} {f} {x} {y} h s z = go (ℕ_discrete (f z) x)
  where
    go : Dec (f z ≡ x) → Follows S z (into y x (f z))
    go (yes e) = rw (e, into-hit y x) (chain (rw e at (s z)) h)
    go (no e) = rw (into-miss y x (f z) e) (s z)

-- Sound and closed labels decide.
pub decides : {S : Rec → Type 0} {f : ℕ → ℕ} → ((z : ℕ) → Follows S z (f z)) → Closed S f → (x y : ℕ) → (f x ≡ f y → Follows S x y) × (Follows S x y → f x ≡ f y)
decides {S} {f} s c x y = ((λ e. let z : Follows S (f x) y = rw e (flip (s y)) in chain (s x) z), complete c)
