-- The four cases of halving: all of lo..hi goes; one is left and stays; one half, and then the other. Fewer records entail less, so what could not be spared before more was left
-- out cannot be spared after it. Assumes nothing.
use Prim.Native.Nat.{ℕ, suc, ◌≤◌, ◌<◌}
use native.Mathlib.Omega.{arith}
use native.Mathlib.Decide.{dec_lt}
use mathlib.Core.Path.{◌≡◌, refl, sym, ◌∙◌}
use mathlib.Core.Logic.{◌≢◌, ◌⊎◌, inl, inr}
use mathlib.Core.List.{List, Memᴰ}
use Rattle.meaning.specs.Following.{Rec, Follows, At, Those, Only, Without}
use Rattle.meaning.proofs.Close.{more}
use Rattle.list_ways.specs.Halves.{Picked, Outside, Every, Halved}

-- Number 0 is no record's.
no-nought : {rs : List Rec} {r : Rec} {k : ℕ} → k ≡ 0 → At rs k r → ⊥
no-nought e a = omega (arith, a.number)

-- Of a list that has less, fewer places pick less.
pub picked_more : {rs : List Rec} {s t n : ℕ} {P Q : ℕ → Type 0} (l l' : ℕ → ℕ) → ((j : ℕ) → (l' j ≡ l j) ⊎ (l' j ≡ 0)) → ((j : ℕ) → P j → l' j ≢ 0 → Q j)
    → Follows (Those rs (Picked l' n P)) s t → Follows (Those rs (Picked l n Q)) s t
picked_more {rs} {s} {t} {n} {P} {Q} l l' few h = more there
  where
    there : (r : Rec) → Those rs (Picked l' n P) r → Those rs (Picked l n Q) r
    there r i = go (few i.1.0)
      where
        go : (l' i.1.0 ≡ l i.1.0) ⊎ (l' i.1.0 ≡ 0) → Those rs (Picked l n Q) r
        go (inl e) = (i.0, (i.1.0, i.1.1, h i.1.0 i.1.2 (λ z. no-nought (sym i.1.3 ∙ z) i.2), sym e ∙ i.1.3), i.2)
        go (inr e) = absurd (no-nought (sym i.1.3 ∙ e) i.2)

module _ {rs : List Rec} {s t n lo hi : ℕ} {l : ℕ → ℕ} where
  -- What is outside suffices: all of lo..hi goes.
  pub halved_none : {l' : ℕ → ℕ} → ((j : ℕ) → Outside lo hi j → l' j ≡ l j) → ((j : ℕ) → lo ≤ j → j < hi → l' j ≡ 0) → Follows (Those rs (Picked l n (Outside lo hi))) s t
      → Halved rs s t n lo hi l l'
  halved_none {l'} out gone e = record { same = out; fewer = λ j. few j (dec_lt j lo) (dec_lt j hi); entails = more there e; unspared = λ j a b c f. c (gone j a b) }
    where
      few : (j : ℕ) → Dec (j < lo) → Dec (j < hi) → (l' j ≡ l j) ⊎ (l' j ≡ 0)
      few j (yes a) b = inl (out j (inl a))
      few j (no a) (no b) = inl (out j (inr (omega arith)))
      few j (no a) (yes b) = inr (gone j (omega arith) b)

      there : (r : Rec) → Those rs (Picked l n (Outside lo hi)) r → Those rs (Picked l' n Every) r
      there r i = (i.0, (i.1.0, i.1.1, tt, out i.1.0 i.1.2 ∙ i.1.3), i.2)

  -- It does not, and one is left: it stays.
  pub halved-one : hi ≤ suc lo → Follows (Those rs (Picked l n Every)) s t → (Follows (Those rs (Picked l n (Outside lo hi))) s t → ⊥) → Halved rs s t n lo hi l l
  halved-one one e d = record {
    same = λ j o. refl;
    fewer = λ j. inl refl;
    entails = e;
    unspared = λ j a b c f. d (picked_more l l (λ i. inl refl) (λ i x y. out j a b i x (dec_lt i lo)) f);
  }
    where
      out : (j : ℕ) → lo ≤ j → j < hi → (i : ℕ) → i ≢ j → Dec (i < lo) → Outside lo hi i
      out j a b i x (yes y) = inl y
      out j a b i x (no y) = inr (omega arith)

-- One half, and then the other.
pub halved_both : {rs : List Rec} {s t n lo mid hi : ℕ} {l l₁ l₂ : ℕ → ℕ} → lo ≤ mid → mid ≤ hi → Halved rs s t n mid hi l l₁ → Halved rs s t n lo mid l₁ l₂ → Halved rs s t n lo hi l l₂
halved_both {rs} {s} {t} {n} {lo} {mid} {hi} {l} {l₁} {l₂} a b g h = record {
  same = λ j o. h.same j (left j o) ∙ g.same j (right j o);
  fewer = λ j. both j (h.fewer j) (g.fewer j);
  entails = h.entails;
  unspared = λ j x y z f. part j x y z f (dec_lt j mid);
}
  where
    left : (j : ℕ) → Outside lo hi j → Outside lo mid j
    left j (inl o) = inl o
    left j (inr o) = inr (omega arith)

    right : (j : ℕ) → Outside lo hi j → Outside mid hi j
    right j (inl o) = inl (omega arith)
    right j (inr o) = inr o

    both : (j : ℕ) → (l₂ j ≡ l₁ j) ⊎ (l₂ j ≡ 0) → (l₁ j ≡ l j) ⊎ (l₁ j ≡ 0) → (l₂ j ≡ l j) ⊎ (l₂ j ≡ 0)
    both j (inr p) q = inr p
    both j (inl p) (inl q) = inl (p ∙ q)
    both j (inl p) (inr q) = inr (p ∙ q)

    part : (j : ℕ) → lo ≤ j → j < hi → l₂ j ≢ 0 → Follows (Those rs (Picked l₂ n (λ i. i ≢ j))) s t → Dec (j < mid) → ⊥
    part j x y z f (yes k) = h.unspared j x k z f
    part j x y z f (no k) = g.unspared j (omega arith) y (λ e. z (h.same j (inr (omega arith)) ∙ e)) (picked_more l₁ l₂ h.fewer (λ i p q. p) f)

-- The whole list: a list of numbers that are those left, no matter in what order, is as `Pruned` has it.
pub halved-list : {rs : List Rec} {s t n : ℕ} {l l' : ℕ → ℕ} {L : List ℕ} → Halved rs s t n 0 n l l' → ((j : ℕ) → j < n → l' j ≢ 0 → Memᴰ (l' j) L)
    → ((k : ℕ) → Memᴰ k L → (j : ℕ) × (j < n) × (l' j ≡ k) × (k ≢ 0)) → Follows (Only rs L) s t × ((m : ℕ) → Memᴰ m L → Follows (Without rs L m) s t → ⊥)
halved-list {rs} {s} {t} {n} {l} {l'} {L} h to from = (more there h.entails, λ m i f. let x = from m i in h.unspared x.0 (omega arith) x.1 (λ e. x.3 (sym x.2 ∙ e)) (more (back m i) f))
  where
    there : (r : Rec) → Those rs (Picked l' n Every) r → Those rs (λ k. Memᴰ k L) r
    there r i = (i.0, rw (← i.1.3) (to i.1.0 i.1.1 (λ z. no-nought (sym i.1.3 ∙ z) i.2)), i.2)

    back : (m : ℕ) (i : Memᴰ m L) (r : Rec) → Those rs (λ k. Memᴰ k L × (k ≢ m)) r → Those rs (Picked l' n (λ j. j ≢ (from m i).0)) r
    back m i r x =
        let y = from x.0 x.1.0 in
        let z = from m i in
        (x.0, (y.0, y.1, (λ e. x.1.1 (sym y.2 ∙ rw e z.2)), y.2), x.2)
