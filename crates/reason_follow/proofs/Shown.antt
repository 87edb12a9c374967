-- Two tags that joins older than b connect, and marked joins of any age, are connected by marked joins older than b: a younger one on the way would have had its ends together before it.
-- So what is shown equal need not be followed again, whatever the limit. Assumes nothing.
use Prim.Native.Nat.{ℕ, zero, suc, ◌≤◌, ◌<◌}
use native.Mathlib.Omega.{arith}
use native.Mathlib.Decide.{ℕ_discrete, dec_le}
use mathlib.Core.Path.{◌≡◌, sym, ◌∙◌, ap}
use mathlib.Core.Bool.{Bool, true}
use mathlib.Core.List.{List, ◌++◌, map}
use lib.Dec.{T}
use lib.ListN.{length, take, drop, get_or, length-drop, length-map, get_or-map}
use lib.Seq.{get_or-take, get_or-drop, length-take-le}
use Rattle.meaning.specs.Joins.{Join, Linked, below, over, back, Joined, put}
use Rattle.meaning.specs.Labels.{into}
use Rattle.meaning.specs.Limits.{most_tags}
use Rattle.meaning.proofs.Log.{linked-refl, linked-sym, linked-trans, linked_up, linked-more, put-hit, put-miss}
use Rattle.meaning.proofs.Relabel.{into-hit, into-miss, get_d_any}
use Rattle.table.specs.Map.{label_of}
use Rattle.table.specs.Places.{LABEL, Large}
use Rattle.table.proofs.Frame.{seen_at}
use Rattle.table_labels.proofs.Views.{part_at, part-within}
use Rattle.reason_follow.specs.Shown.{Shown, Noted}

module _ {e : ℕ → Join} {m : ℕ → Bool} where
  pub any : {n s t : ℕ} → Linked e m n s t → Joined e n s t
  any p = linked-more (λ a h. tt) p

  pub linked-old : (n b s t : ℕ) → ((a : ℕ) → a < n → T (m a) → Joined e a (e a).u (e a).v → ⊥) → b ≤ n → Joined e b s t → Linked e m n s t → Linked e m b s t
  linked-old zero b s t u l j p = let q : b ≡ 0 = omega arith in rw q p
  linked-old (suc n) b s t u l j p = go (λ h. linked-old n b s t (λ a i. u a (omega arith)) h j) (dec_le b n) p
    where
      go : (b ≤ n → Linked e m n s t → Linked e m b s t) → Dec (b ≤ n) → Linked e m (suc n) s t → Linked e m b s t
      go f (no h) q = let z : b ≡ suc n = omega arith in rw z q
      go f (yes h) (below q) = f h q
      go f (yes h) (over o q r) = absurd (u n (omega arith) o (linked-trans (linked-sym (any q)) (linked-trans (linked_up n h j) (linked-sym (any r)))))
      go f (yes h) (back o q r) = absurd (u n (omega arith) o (linked-trans (any r) (linked-trans (linked_up n h (linked-sym j)) (any q))))

  -- Nothing is shown where no join is marked and each tag is its own label.
  pub shown-none : {n : ℕ} {f : ℕ → ℕ} → ((a : ℕ) → a < n → T (m a) → ⊥) → ((x : ℕ) → f x ≡ x) → Shown e m n f
  shown-none {n} {f} d q = record { linked = λ x y i j h. rw (sym (q x) ∙ h ∙ q y) (linked-refl n y); useful = λ a l h. absurd (d a l h) }

  -- Two tags that marked joins link may get one label.
  pub shown-join : {n s t : ℕ} {f f' : ℕ → ℕ} → s < most_tags → t < most_tags → ((z : ℕ) → z < most_tags → f' z ≡ into (f t) (f s) (f z)) → Linked e m n s t → Shown e m n f → Shown e m n f'
  shown-join {n} {s} {t} {f} {f'} k k' r l h = record { linked = λ x y i j q. go x y i j (ℕ_discrete (f x) (f s)) (ℕ_discrete (f y) (f s)) (sym (r x i) ∙ q ∙ r y j); useful = h.useful }
    where
      go : (x y : ℕ) → x < most_tags → y < most_tags → Dec (f x ≡ f s) → Dec (f y ≡ f s) → into (f t) (f s) (f x) ≡ into (f t) (f s) (f y) → Linked e m n x y
      go x y i j (yes a) (yes b) q = h.linked x y i j (a ∙ sym b)
      go x y i j (no a) (no b) q = h.linked x y i j (sym (into-miss (f t) (f s) (f x) a) ∙ q ∙ into-miss (f t) (f s) (f y) b)
      go x y i j (yes a) (no b) q = linked-trans (h.linked x s i k a) (linked-trans l (h.linked t y k' j (sym (into-hit (f t) (f s)) ∙ cc (a, q, into-miss (f t) (f s) (f y) b))))
      go x y i j (no a) (yes b) q = linked-trans (h.linked x t i k' (cc (b, q, into-hit (f t) (f s), into-miss (f t) (f s) (f x) a))) (linked-trans (linked-sym l) (h.linked s y k j (sym b)))

-- One mark more shows as much, if the ends of its join were apart before it.
pub shown-mark : {e : ℕ → Join} {m m' : ℕ → Bool} {n b : ℕ} {f : ℕ → ℕ} → m' ≡ put b true m → (Joined e b (e b).u (e b).v → ⊥) → Shown e m n f → Shown e m' n f
shown-mark {e} {m} {m'} {n} {b} {f} q d s = record { linked = λ x y i j h. linked-more more (s.linked x y i j h); useful = λ a l h. useful a l (rw (q) at h) (ℕ_discrete a b) }
  where
    more : (a : ℕ) → T (m a) → T (m' a)
    more a h = rw q (go (ℕ_discrete a b))
      where
        go : Dec (a ≡ b) → T (put b true m a)
        go (yes z) = rw (z, put-hit b true m) tt
        go (no z) = rw (put-miss b true m a z) h

    useful : (a : ℕ) → a < n → T (put b true m a) → Dec (a ≡ b) → Joined e a (e a).u (e a).v → ⊥
    useful a l h (yes z) = rw z d
    useful a l h (no z) = s.useful a l (rw (put-miss b true m a z) at h)

-- The labels that are the same say the same.
pub shown-to : {e e' : ℕ → Join} {m m' : ℕ → Bool} {n : ℕ} {f f' : ℕ → ℕ} → e ≡ e' → m ≡ m' → f ≡ f' → Shown e m n f → Shown e' m' n f'
shown-to p q r s = rw (← p, ← q, ← r) s

-- All labels that are that of x become that of y: the part that is lent holds all labels of tags, and comes back mapped.
module _ (w w' v : List ℕ) (x y lo hi : ℕ) (long : Large w) (p : hi ≡ label_of w x) (r : lo ≡ label_of w y) (e : w' ≡ take LABEL.at w ++ (v ++ drop most_tags (drop LABEL.at w)))
    (q : v ≡ map (into lo hi) (take most_tags (drop LABEL.at w))) where
  size : length v ≡ most_tags
  size = rw q (length-map (take most_tags (drop LABEL.at w)) (into lo hi) ∙ length-take-le most_tags (drop LABEL.at w) (rw length-drop (omega arith)))

  renamed : (z : ℕ) → z < most_tags → label_of w' z ≡ into lo hi (label_of w z)
  renamed z l =
      rw (seen_at LABEL w' z l, seen_at LABEL w z l, e) (part_at LABEL.at most_tags w v (omega arith) size z l
      ∙ get_d_any v z 0 (into lo hi 0) (omega (arith, size)) ∙ ap (λ (u : List ℕ). get_or u z (into lo hi 0)) q ∙ get_or-map (into lo hi) (take most_tags (drop LABEL.at w)) z 0
      ∙ ap (into lo hi) (get_or-take most_tags (drop LABEL.at w) z 0 l ∙ get_or-drop LABEL.at w z 0))

  pub noted : Noted w w' x y
  noted = record { kept = rw e (part-within LABEL.at most_tags w v (omega arith) size); labels = λ z l. renamed z l ∙ ap (λ (i : ℕ). into i hi (label_of w z)) r ∙ ap (λ (i : ℕ). into (label_of w y) i (label_of w z)) p }
