-- Among joins that each brought apart tags together, two tags are linked in one way only. So whatever set of such joins links two tags and rests on itself has every join that
-- following the two comes by; and where no two joins of applications have equal arguments, leaving a record out leaves no such set. Assumes nothing.
use Prim.Native.Nat.{ℕ, zero, suc, ◌≤◌, ◌<◌}
use native.Mathlib.Omega.{arith}
use native.Mathlib.Decide.{dec_lt, dec_le}
use mathlib.Core.Path.{◌≡◌, refl, sym, ◌∙◌}
use mathlib.Core.Logic.{◌≢◌, ◌↔◌, ◌⊎◌, inl, inr}
use mathlib.Core.Bool.{Bool, true, false}
use mathlib.Core.List.Memᴰ
use mathlib.Core.List.{List, [], ◌∷◌, Memᴰ}
use lib.Dec.{T}
use Rattle.meaning.specs.Following.{Rec, eq, app, At, Follows, same, flip, chain, given, congruent, Only, Without}
use Rattle.meaning.specs.Joins.{Why, by, cong, Join, Linked, below, over, back, Grounds, equation, applications, Supported, Joined, numbers_of, keep, used}
use Rattle.meaning.specs.Needed.{Crosses, Unlike, Aim, tags, join, Needed, near-side, far-side, across, itself, lefts, rights}
use Rattle.meaning.proofs.Close.{more_of}
use Rattle.meaning.proofs.Log.{linked-refl, linked-sym, linked-trans, linked_up, linked-more, linked-follows, grounds-more}
use Rattle.meaning.proofs.Short.{dec_among}
use Rattle.meaning.proofs.Decide.{dec_follows, besides, without-test}

-- A number stands for one record.
at_one : {rs : List Rec} {k k' : ℕ} {r r' : Rec} → k ≡ k' → At rs k r → At rs k' r' → r ≡ r'
at_one e i j = let q : i.place ≡ j.place = omega (arith, i.number, j.number) in sym i.is ∙ rw q j.is

-- The grounds of two applications, by any names of their arguments.
module _ {rs : List Rec} {R : ℕ → ℕ → Type 0} {u v k k' x y x' y' : ℕ} (i : At rs k (app x y u)) (i' : At rs k' (app x' y' v)) where
  grounds-lefts : Grounds rs R u v (cong k k') → R x x'
  grounds-lefts (applications {a = a} {a' = a'} j j' p q) =
      let z = at_one refl i j in
      let z' = at_one refl i' j' in
      let l : x ≡ a = cc z in
      let l' : x' ≡ a' = cc z' in
      rw (l, l') p

  grounds-rights : Grounds rs R u v (cong k k') → R y y'
  grounds-rights (applications {b = b} {b' = b'} j j' p q) =
      let z = at_one refl i j in
      let z' = at_one refl i' j' in
      let l : y ≡ b = cc z in
      let l' : y' ≡ b' = cc z' in
      rw (l, l') q

-- What marked joins link, the joins link.
pub linked-joined : {e : ℕ → Join} {m : ℕ → Bool} {n s t : ℕ} → Linked e m n s t → Joined e n s t
linked-joined = linked-more (λ a t. tt)

-- A join that is crossed brought apart tags together.
pub crosses-apart : {e : ℕ → Join} {s t b near far : ℕ} → Crosses e s t b near far → Joined e b (e b).u (e b).v → ⊥
crosses-apart {e} {s} {t} {b} {near} {far} c j = c.apart (linked-trans c.from (linked-trans (go c.either) c.onto))
  where
    go : ((near ≡ (e b).u) × (far ≡ (e b).v)) ⊎ ((near ≡ (e b).v) × (far ≡ (e b).u)) → Joined e b near far
    go (inl q) = rw (q.0, q.1) j
    go (inr q) = rw (q.0, q.1) (linked-sym j)

module _ {e : ℕ → Join} {p : ℕ → Bool} (fresh : (a : ℕ) → T (p a) → Joined e a (e a).u (e a).v → ⊥) where
  -- What older joins bring together, older ones of the set link.
  pub linked-older : {x y : ℕ} (n b : ℕ) → b ≤ n → Linked e p n x y → Joined e b x y → Linked e p b x y
  linked-older zero b l i j = let q : b ≡ 0 = omega arith in rw q i
  linked-older {x} {y} (suc n) b l i j = go (dec_le b n) (λ h i'. linked-older n b h i' j) i
    where
      go : Dec (b ≤ n) → (b ≤ n → Linked e p n x y → Linked e p b x y) → Linked e p (suc n) x y → Linked e p b x y
      go (no h) f i = let q : b ≡ suc n = omega arith in rw q i
      go (yes h) f (below i) = f h i
      go (yes h) f (over o i i') = absurd (fresh n o (linked-trans (linked-sym (linked-joined i)) (linked-trans (linked_up n h j) (linked-sym (linked-joined i')))))
      go (yes h) f (back o i i') = absurd (fresh n o (linked-trans (linked-joined i') (linked-trans (linked-sym (linked_up n h j)) (linked-joined i))))

  -- So the newest join between two tags is of the set, and the set links both sides of it.
  pub linked-crosses : {s t b near far : ℕ} (n : ℕ) → Crosses e s t b near far → Linked e p n s t → T (p b) × Linked e p n s near × Linked e p n far t
  linked-crosses {s} {t} {b} {near} {far} n c i = go (dec_lt b n)
    where
      Either : Type 0
      Either = ((near ≡ (e b).u) × (far ≡ (e b).v)) ⊎ ((near ≡ (e b).v) × (far ≡ (e b).u))

      ends : Either → Joined e (suc b) near far
      ends (inl q) = rw (q.0, q.1) (over tt (linked-refl b (e b).u) (linked-refl b (e b).v))
      ends (inr q) = rw (q.0, q.1) (back tt (linked-refl b (e b).v) (linked-refl b (e b).u))

      met : Joined e (suc b) s t
      met = linked-trans (below c.from) (linked-trans (ends c.either) (below c.onto))

      cut : b < n → Either → Linked e p (suc b) s t → T (p b) × Linked e p n s near × Linked e p n far t
      cut l q (below h) = absurd (c.apart (linked-joined h))
      cut l (inl q) (over o h h') = (o, rw q.0 (linked_up n (omega arith) h), rw q.1 (linked_up n (omega arith) h'))
      cut l (inr q) (over o h h') = absurd (c.apart (linked-trans (rw q.0 at c.from) (linked-joined h')))
      cut l (inl q) (back o h h') = absurd (c.apart (linked-trans (rw q.0 at c.from) (linked-joined h')))
      cut l (inr q) (back o h h') = (o, rw q.0 (linked_up n (omega arith) h), rw q.1 (linked_up n (omega arith) h'))

      go : Dec (b < n) → T (p b) × Linked e p n s near × Linked e p n far t
      go (yes l) = cut l c.either (linked-older n (suc b) l i met)
      go (no l) = absurd (c.apart (linked_up b (omega arith) (linked-joined i)))

-- A set that links two tags, or has a join.
abbrev Reached : (ℕ → Join) → (ℕ → Bool) → ℕ → Aim → Type 0
Reached e p n (tags s t) = Linked e p n s t
Reached e p n (join b) = T (p b)

-- The least such set: if it rests on itself, it has every join that following comes by.
pub needed-least : {rs : List Rec} {e : ℕ → Join} {p : ℕ → Bool} (n : ℕ) → ((a : ℕ) → T (p a) → Joined e a (e a).u (e a).v → ⊥) → ((a : ℕ) → T (p a) → Grounds rs (Linked e p n) (e a).u (e a).v (e a).why)
    → {aim : Aim} {a : ℕ} → Needed rs e aim a → Reached e p n aim → T (p a)
needed-least n f g (near-side c d) r = needed-least n f g d (linked-crosses f n c r).1
needed-least n f g (far-side c d) r = needed-least n f g d (linked-crosses f n c r).2
needed-least n f g (across c d) r = needed-least n f g d (linked-crosses f n c r).0
needed-least n f g itself r = r
needed-least n f g (lefts {b = b} w i i' d) r = needed-least n f g d (grounds-lefts i i' (rw w at (g b r)))
needed-least n f g (rights {b = b} w i i' d) r = needed-least n f g d (grounds-rights i i' (rw w at (g b r)))

-- Each of them brought apart tags together.
abbrev Fresh : (ℕ → Join) → Aim → Type 0
Fresh e (tags s t) = Unit {0}
Fresh e (join b) = Joined e b (e b).u (e b).v → ⊥

needed-apart : {rs : List Rec} {e : ℕ → Join} {aim : Aim} {a : ℕ} → Needed rs e aim a → Fresh e aim → Joined e a (e a).u (e a).v → ⊥
needed-apart (near-side c d) r = needed-apart d tt
needed-apart (far-side c d) r = needed-apart d tt
needed-apart (across c d) r = needed-apart d (crosses-apart c)
needed-apart itself r = r
needed-apart (lefts w i i' d) r = needed-apart d tt
needed-apart (rights w i i' d) r = needed-apart d tt

-- A record of a marked join, and the join that it is of.
record Uses (e : ℕ → Join) (m : ℕ → Bool) (n k : ℕ) : Type 0 where
  age : ℕ
  there : age < n
  taken : T (m age)
  of : Memᴰ k (numbers_of (e age).why)

used-of : (e : ℕ → Join) (m : ℕ → Bool) (n k : ℕ) → Memᴰ k (used e m n) → Uses e m n k
used-of e m zero k i = absurd (Memᴰ.not-nil i)
used-of e m (suc n) k i = elim (Memᴰ.append_cases (keep (m n) (numbers_of (e n).why)) i) [
  | inl h ↦ one (m n) refl h
  | inr h ↦ let r = used-of e m n k h in record { age = r.age; there = omega (arith, r.there); taken = r.taken; of = r.of }
]
  where
    one : (b : Bool) → m n ≡ b → Memᴰ k (keep b (numbers_of (e n).why)) → Uses e m (suc n) k
    one true q h = record { age = n; there = omega arith; taken = rw q tt; of = h }
    one false q h = absurd (Memᴰ.not-nil h)

-- Fewer joins use fewer records.
pub used-up : (e : ℕ → Join) (m : ℕ → Bool) (a n k : ℕ) → a ≤ n → Memᴰ k (used e m a) → Memᴰ k (used e m n)
used-up e m a zero k l i = let q : a ≡ 0 = omega arith in rw q at i
used-up e m a (suc n) k l i = go (used-up e m a n k) (dec_le a n)
  where
    go : (a ≤ n → Memᴰ k (used e m a) → Memᴰ k (used e m n)) → Dec (a ≤ n) → Memᴰ k (used e m (suc n))
    go f (yes h) = Memᴰ.append_right (keep (m n) (numbers_of (e n).why)) (f h i)
    go f (no h) = let q : a ≡ suc n = omega arith in rw q at i

-- Whether a join's grounds hold with another relation between the arguments.
grounds-decided : {rs : List Rec} {R Q : ℕ → ℕ → Type 0} → ((x y : ℕ) → Dec (Q x y)) → {u v : ℕ} {w : Why} → Grounds rs R u v w → Dec (Grounds rs Q u v w)
grounds-decided d (equation i) = yes (equation i)
grounds-decided {rs} {R} {Q} d {u} {v} (applications {k = k} {k' = k'} {a = a} {b = b} {a' = a'} {b' = b'} i i' p q) = go (d a a') (d b b')
  where
    go : Dec (Q a a') → Dec (Q b b') → Dec (Grounds rs Q u v (cong k k'))
    go (yes f) (yes g) = yes (applications i i' f g)
    go (yes f) (no g) = no (λ h. g (grounds-rights i i' h))
    go (no f) g = no (λ h. f (grounds-lefts i i' h))

-- A decision as a test.
abbrev decided : {A : Type 0} → Dec A → Bool
decided (yes a) = true
decided (no a) = false

decided-same : {A : Type 0} (d : Dec A) → A ↔ T (decided d)
decided-same (yes a) = (λ x. tt, λ t. a)
decided-same (no a) = (a, λ t. absurd t)

mark-decided : (b : Bool) → Dec (T b)
mark-decided true = yes tt
mark-decided false = no (λ t. t)

at_moved : {rs : List Rec} {k k' x y c c' : ℕ} → k ≡ k' → c ≡ c' → At rs k (app x y c) → At rs k' (app x y c')
at_moved p q i = rw (← p, ← q) i

follows-at : {S : Rec → Type 0} {x y : ℕ} → x ≡ y → Follows S x y
follows-at q = rw q same

linked-at : {e : ℕ → Join} {m : ℕ → Bool} {x y : ℕ} (n : ℕ) → x ≡ y → Linked e m n x y
linked-at {y = y} n q = rw q (linked-refl n y)

neither : {z l l' : ℕ} → l ≢ z → l' ≢ z → Memᴰ z (l ∷ l' ∷ []) → ⊥
neither d d' i = elim (Memᴰ.cases_cons i) [ inl q ↦ d (sym q) | inr j ↦ d' (sym (Memᴰ.eq_of_singleton j)) ]

-- Marked joins that rest on each other and that following s and t comes by, with L for their records and no two of them alike; z is left out.
module _ (rs : List Rec) (e : ℕ → Join) (m : ℕ → Bool) (n s t : ℕ) (L : List ℕ) (S : Supported rs e m n) (need : (a : ℕ) → a < n → T (m a) → Needed rs e (tags s t) a)
    (members : (k : ℕ) → Memᴰ k (used e m n) ↔ Memᴰ k L) (U : Unlike rs e m n (Only rs L)) (z : ℕ) where
  -- The joins that stay: marked ones whose records and whose arguments' equality are still there.
  record Stays (a : ℕ) : Type 0 where
    young : a < n
    taken : T (m a)
    other : Memᴰ z (numbers_of (e a).why) → ⊥
    grounds : Grounds rs (Follows (Without rs L z)) (e a).u (e a).v (e a).why

  rest-decided : (x y : ℕ) → Dec (Follows (Without rs L z) x y)
  rest-decided = dec_follows rs (besides L z) (λ k. Memᴰ k L × (k ≢ z)) (without-test L z)

  stays-decided : (a : ℕ) → Dec (Stays a)
  stays-decided a = young (dec_lt a n)
    where
      grounds : a < n → T (m a) → (Memᴰ z (numbers_of (e a).why) → ⊥) → Dec (Grounds rs (Follows (Without rs L z)) (e a).u (e a).v (e a).why) → Dec (Stays a)
      grounds l h i (yes g) = yes (record { young = l; taken = h; other = i; grounds = g })
      grounds l h i (no g) = no (λ r. g r.grounds)

      other : a < n → T (m a) → Dec (Memᴰ z (numbers_of (e a).why)) → Dec (Stays a)
      other l h (yes i) = no (λ r. r.other i)
      other l h (no i) = grounds l h i (grounds-decided rest-decided (S a l h))

      taken : a < n → Dec (T (m a)) → Dec (Stays a)
      taken l (yes h) = other l h (dec_among (numbers_of (e a).why) z)
      taken l (no h) = no (λ r. h r.taken)

      young : Dec (a < n) → Dec (Stays a)
      young (yes l) = taken l (mark-decided (m a))
      young (no l) = no (λ r. l r.young)

  abbrev left : ℕ → Bool
  left a = decided (stays-decided a)

  left-same : (a : ℕ) → Stays a ↔ T (left a)
  left-same a = decided-same (stays-decided a)

  -- What they join is linked by them.
  stays-linked : {a : ℕ} → Stays a → Linked e left n (e a).u (e a).v
  stays-linked {a} h = linked_up n h.young (over {n = a} ((left-same a).0 h) (linked-refl a (e a).u) (linked-refl a (e a).v))

  -- What marked joins link follows from all of L.
  marked-follows : (a : ℕ) → a ≤ n → {x y : ℕ} → Linked e m a x y → Follows (Only rs L) x y
  marked-follows a l i = linked-follows rs e m (λ k. Memᴰ k L) a (λ b h. S b (omega arith)) (λ k h. (members k).0 (used-up e m a n k l h)) _ _ i

  -- An application of L is one of the two of a marked join, and the first of the two has arguments equal to its own.
  record Placed (a k x y c : ℕ) : Type 0 where
    young : a < n
    taken : T (m a)
    first : ℕ
    second : ℕ
    x₁ : ℕ
    y₁ : ℕ
    why : (e a).why ≡ cong first second
    at : At rs first (app x₁ y₁ (e a).u)
    lefts-follow : Follows (Only rs L) x₁ x
    rights-follow : Follows (Only rs L) y₁ y
    either : ((k ≡ first) × (c ≡ (e a).u)) ⊎ ((k ≡ second) × (c ≡ (e a).v))

  placed : {k x y c : ℕ} → Memᴰ k L → At rs k (app x y c) → (a : ℕ) × Placed a k x y c
  placed {k} {x} {y} {c} i at = (r.age, go (e r.age).why refl r.of (S r.age r.there r.taken))
    where
      r : Uses e m n k
      r = used-of e m n k ((members k).1 i)

      go : (w : Why) → (e r.age).why ≡ w → Memᴰ k (numbers_of w) → Grounds rs (Linked e m r.age) (e r.age).u (e r.age).v w → Placed r.age k x y c
      go (by l) q h (equation j) =
          let d : k ≡ l = Memᴰ.eq_of_singleton h in
          let w = at_one d at j in
          let o : ◌≡◌ {A = ℕ} 0 1 = cc w in
          absurd (omega arith)
      go (cong l l') q h (applications {a = x₁} {b = y₁} {a' = x₂} {b' = y₂} j j' f g) = elim (Memᴰ.cases_cons h) [
        | inl d ↦
            let w = at_one d at j in
            let o : x₁ ≡ x = cc w in
            let o' : y₁ ≡ y = cc w in
            record { young = r.there; taken = r.taken; first = l; second = l'; x₁ = x₁; y₁ = y₁; why = q; at = j; lefts-follow = follows-at o; rights-follow = follows-at o'; either = inl (d, cc w) }
        | inr h' ↦
            let d : k ≡ l' = Memᴰ.eq_of_singleton h' in
            let w = at_one d at j' in
            let o : x₂ ≡ x = cc w in
            let o' : y₂ ≡ y = cc w in
            let b : r.age ≤ n = omega (arith, r.there) in
            record { young = r.there; taken = r.taken; first = l; second = l'; x₁ = x₁; y₁ = y₁; why = q; at = j; lefts-follow = rw o at (marked-follows r.age b f); rights-follow = rw o' at (marked-follows r.age b g); either = inr (d, cc w) }
      ]

  -- Two applications that are left, with arguments equal by what is left: they are the two of one join, which stays, or they are one.
  module _ {k k' x y c x' y' c' : ℕ} (i : Memᴰ k L) (i' : Memᴰ k' L) (d : k ≢ z) (d' : k' ≢ z) (at : At rs k (app x y c)) (at' : At rs k' (app x' y' c'))
      (f : Follows (Without rs L z) x x') (g : Follows (Without rs L z) y y') where
    all_of : {a b : ℕ} → Follows (Without rs L z) a b → Follows (Only rs L) a b
    all_of = more_of (λ k h. h.0)

    one-join : {a a' : ℕ} → Placed a k x y c → Placed a' k' x' y' c' → a ≡ a'
    one-join {a} {a'} p q = U.differ a a' p.x₁ p.y₁ q.x₁ q.y₁ p.young q.young p.taken q.taken
        (record { first = p.first; second = p.second; result = (e a).u; why = p.why; at = p.at }) (record { first = q.first; second = q.second; result = (e a').u; why = q.why; at = q.at })
        (chain p.lefts-follow (chain (all_of f) (flip q.lefts-follow))) (chain p.rights-follow (chain (all_of g) (flip q.rights-follow)))

    both : {a : ℕ} → Placed a k x y c → Placed a k' x' y' c' → Linked e left n c c'
    both {a} p q = go p.either q.either
      where
        whys : cong p.first p.second ≡ cong q.first q.second
        whys = sym p.why ∙ q.why

        go : ((k ≡ p.first) × (c ≡ (e a).u)) ⊎ ((k ≡ p.second) × (c ≡ (e a).v)) → ((k' ≡ q.first) × (c' ≡ (e a).u)) ⊎ ((k' ≡ q.second) × (c' ≡ (e a).v)) → Linked e left n c c'
        go (inl h) (inl h') = linked-at n (h.1 ∙ sym h'.1)
        go (inr h) (inr h') = linked-at n (h.1 ∙ sym h'.1)
        go (inl h) (inr h') =
            let o : k' ≡ p.second = h'.0 ∙ cc whys in
            rw (h.1, h'.1) (stays-linked (record {
              young = p.young;
              taken = p.taken;
              other = λ j. neither (λ b. d (h.0 ∙ b)) (λ b. d' (o ∙ b)) (rw p.why at j);
              grounds = rw p.why (applications (at_moved h.0 h.1 at) (at_moved o h'.1 at') f g);
            }))
        go (inr h) (inl h') =
            let o : k' ≡ p.first = h'.0 ∙ cc whys in
            rw (h.1, h'.1) (linked-sym (stays-linked (record {
              young = p.young;
              taken = p.taken;
              other = λ j. neither (λ b. d' (o ∙ b)) (λ b. d (h.0 ∙ b)) (rw p.why at j);
              grounds = rw p.why (applications (at_moved o h'.1 at') (at_moved h.0 h.1 at) (flip f) (flip g));
            })))

    applied : Linked e left n c c'
    applied = go (placed i at) (placed i' at')
      where
        go : (a : ℕ) × Placed a k x y c → (a : ℕ) × Placed a k' x' y' c' → Linked e left n c c'
        go p q = both p.1 (rw (one-join p.1 q.1) q.1)

  -- An equation that is left is the join's that has it, which stays.
  equated : {k x y : ℕ} → Memᴰ k L → k ≢ z → At rs k (eq x y) → Linked e left n x y
  equated {k} {x} {y} i d at = go (e r.age).why refl r.of (S r.age r.there r.taken)
    where
      r : Uses e m n k
      r = used-of e m n k ((members k).1 i)

      alone : {l : ℕ} → k ≡ l → Memᴰ z (l ∷ []) → ⊥
      alone q j = d (q ∙ sym (Memᴰ.eq_of_singleton j))

      go : (w : Why) → (e r.age).why ≡ w → Memᴰ k (numbers_of w) → Grounds rs (Linked e m r.age) (e r.age).u (e r.age).v w → Linked e left n x y
      go (by l) q h (equation j) =
          let o : k ≡ l = Memᴰ.eq_of_singleton h in
          let w = at_one o at j in
          let b : x ≡ (e r.age).u = cc w in
          let b' : y ≡ (e r.age).v = cc w in
          rw (b, b') (stays-linked (record { young = r.there; taken = r.taken; other = λ c. alone o (rw q at c); grounds = rw q (equation j) }))
      go (cong l l') q h (applications {a = x₁} {b = y₁} {a' = x₂} {b' = y₂} j j' f g) = elim (Memᴰ.cases_cons h) [
        | inl o ↦ let w = at_one o at j in let b : ◌≡◌ {A = ℕ} 0 1 = cc w in absurd (omega arith)
        | inr h' ↦
            let o : k ≡ l' = Memᴰ.eq_of_singleton h' in
            let w = at_one o at j' in
            let b : ◌≡◌ {A = ℕ} 0 1 = cc w in
            absurd (omega arith)
      ]

  -- So what follows without z is linked by the joins that stay, ..
  rest-linked : {x y : ℕ} → Follows (Without rs L z) x y → Linked e left n x y
  rest-linked same = linked-refl n _
  rest-linked (flip p) = linked-sym (rest-linked p)
  rest-linked (chain p q) = linked-trans (rest-linked p) (rest-linked q)
  rest-linked (given i) = equated i.1.0 i.1.1 i.2
  rest-linked (congruent i j p q) = applied i.1.0 j.1.0 i.1.1 j.1.1 i.2 j.2 p q

  -- .. and these rest on each other: if z can be spared, they are all that were marked, that of z too.
  pub unlike-unspared : Memᴰ z L → Follows (Without rs L z) s t → ⊥
  unlike-unspared i f = ((left-same r.age).1 (needed-least n fresh rests (need r.age r.there r.taken) (rest-linked f))).other r.of
    where
      r : Uses e m n z
      r = used-of e m n z ((members z).1 i)

      fresh : (a : ℕ) → T (left a) → Joined e a (e a).u (e a).v → ⊥
      fresh a h = let o = (left-same a).1 h in needed-apart (need a o.young o.taken) tt

      rests : (a : ℕ) → T (left a) → Grounds rs (Linked e left n) (e a).u (e a).v (e a).why
      rests a h = grounds-more (λ x y. rest-linked) ((left-same a).1 h).grounds
