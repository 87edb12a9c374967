-- Labels and leaders, in theory. Labels that tell classes apart still do after a join, when one of two labels became the other and one of two leaders; and the first tag with a label leads its class.
-- Assumes nothing.
use Prim.Native.Nat.{ℕ, ◌<◌}
use native.Mathlib.Omega.{arith}
use native.Mathlib.Decide.{ℕ_discrete, dec_lt}
use mathlib.Core.Path.{◌≡◌, sym, ap, ◌∙◌}
use mathlib.Core.Logic.{◌≢◌, ◌⊎◌, inl, inr}
use Rattle.meaning.specs.Labels.{Labels, into}
use Rattle.meaning.proofs.Relabel.{into-hit, into-miss, into-same}
use Rattle.all_join.specs.State.{Marked}

-- The first tag with a label leads.
pub first-leads : {N : ℕ} {l f : ℕ → ℕ} → Marked N l f → Labels f → (r x : ℕ) → l r ≡ r → l x ≡ r → ((y : ℕ) → y < x → l y ≢ r) → x ≡ f r
first-leads {l = l} {f = f} M L r x own here none =
    let e : f x ≡ f r = M.apart x r (here ∙ sym own) in
    let q : l (f r) ≡ r = M.same (f r) r (L.flat r) ∙ own in
    elim (dec_lt (f r) x) [ yes h ↦ absurd (none (f r) h q) | no h ↦ omega (arith, e, L.low x) ]

-- The label b became a, and the leader hi became lo: these were the leaders of the two.
module _ {N : ℕ} {l f : ℕ → ℕ} (M : Marked N l f) (a b lo hi : ℕ) (own-a : l a ≡ a) (own-b : l b ≡ b) (few : a < N) (apart : a ≢ b) (less : lo < hi) (led : ((f a ≡ lo) × (f b ≡ hi)) ⊎ ((f a ≡ hi) × (f b ≡ lo))) where
  of-a : (x : ℕ) → f x ≡ f a → l x ≡ a
  of-a x q = M.same x a q ∙ own-a

  of-b : (x : ℕ) → f x ≡ f b → l x ≡ b
  of-b x q = M.same x b q ∙ own-b

  -- A tag of either class has one of the two labels, and one of the two leaders; so it goes to a, and to lo.
  labelled : (x : ℕ) → (f x ≡ lo) ⊎ (f x ≡ hi) → (l x ≡ a) ⊎ (l x ≡ b)
  labelled x (inl p) = elim led [ inl h ↦ inl (of-a x (p ∙ sym h.0)) | inr h ↦ inr (of-b x (p ∙ sym h.1)) ]
  labelled x (inr p) = elim led [ inl h ↦ inr (of-b x (p ∙ sym h.1)) | inr h ↦ inl (of-a x (p ∙ sym h.0)) ]

  led-by : (x : ℕ) → (l x ≡ a) ⊎ (l x ≡ b) → (f x ≡ lo) ⊎ (f x ≡ hi)
  led-by x (inl p) = let e : f x ≡ f a = M.apart x a (p ∙ sym own-a) in elim led [ inl h ↦ inl (e ∙ h.0) | inr h ↦ inr (e ∙ h.0) ]
  led-by x (inr p) = let e : f x ≡ f b = M.apart x b (p ∙ sym own-b) in elim led [ inl h ↦ inr (e ∙ h.1) | inr h ↦ inl (e ∙ h.1) ]

  to-a : (x : ℕ) → (l x ≡ a) ⊎ (l x ≡ b) → into a b (l x) ≡ a
  to-a x (inl p) = rw (p, into-miss a b a apart)
  to-a x (inr p) = rw (p, into-hit a b)

  to-lo : (x : ℕ) → (f x ≡ lo) ⊎ (f x ≡ hi) → into lo hi (f x) ≡ lo
  to-lo x (inl p) = rw (p, into-miss lo hi lo (omega arith))
  to-lo x (inr p) = rw (p, into-hit lo hi)

  both : (x y : ℕ) → (f x ≡ lo) ⊎ (f x ≡ hi) → (f y ≡ lo) ⊎ (f y ≡ hi) → into a b (l x) ≡ into a b (l y)
  both x y p q = to-a x (labelled x p) ∙ sym (to-a y (labelled y q))

  both' : (x y : ℕ) → (l x ≡ a) ⊎ (l x ≡ b) → (l y ≡ a) ⊎ (l y ≡ b) → into lo hi (f x) ≡ into lo hi (f y)
  both' x y p q = to-lo x (led-by x p) ∙ sym (to-lo y (led-by y q))

  flat : (x : ℕ) → Dec (l x ≡ b) → into a b (l (into a b (l x))) ≡ into a b (l x)
  flat x (yes p) = rw (p, into-hit a b, own-a, into-miss a b a apart)
  flat x (no p) = rw (into-miss a b (l x) p, M.flat x, into-miss a b (l x) p)

  low : (x : ℕ) → x < N → Dec (l x ≡ b) → into a b (l x) < N
  low x h (yes p) = rw (p, into-hit a b) few
  low x h (no p) = rw (into-miss a b (l x) p) (M.low x h)

  pub marked-join : Marked N (λ x. into a b (l x)) (λ x. into lo hi (f x))
  marked-join = record {
    same = λ x y q. elim (into-same lo hi (f x) (f y) q) [ inl e ↦ ap (into a b) (M.same x y e) | inr (inl h) ↦ both x y (inl h.0) (inr h.1) | inr (inr h) ↦ both x y (inr h.0) (inl h.1) ];
    apart = λ x y q. elim (into-same a b (l x) (l y) q) [ inl e ↦ ap (into lo hi) (M.apart x y e) | inr (inl h) ↦ both' x y (inl h.0) (inr h.1) | inr (inr h) ↦ both' x y (inr h.0) (inl h.1) ];
    flat = λ x. flat x (ℕ_discrete (l x) b);
    low = λ x h. low x h (ℕ_discrete (l x) b);
  }
