-- Links lead down, so every chain ends; ages rise along a chain, so the links older than an age are a front of it, and a new link, younger than all, changes no
-- earlier root: one table of links knows the classes after each join. Assumes nothing.
use Prim.Native.Nat.{ℕ, zero, suc, ◌≤◌, ◌<◌}
use native.Mathlib.Omega.{arith}
use native.Mathlib.Decide.{ℕ_discrete, dec_lt, dec_le}
use mathlib.Core.Path.{◌≡◌, refl, sym, ◌∙◌, ap}
use mathlib.Core.Logic.{◌≢◌, ◌⊎◌, inl, inr}
use borrow.Author.Tests.{lt-ltb, le-ltb}
use Rattle.meaning.specs.Joins.{Join, Joined, below, over, back, put}
use Rattle.meaning.specs.Labels.{Labels, into, Agree}
use Rattle.meaning.specs.Forest.{root_in, root, Links, History}
use Rattle.meaning.proofs.Relabel.{into-hit, into-miss, relabel-agree, agree_same, start-agree, Ends}
use Rattle.meaning.proofs.Log.{put-hit, put-miss}

module _ (p g : ℕ → ℕ) (top len : ℕ) (K : Links p g top len) (a : ℕ) (within : a ≤ len) (high : len ≤ top) where
  stay : (m x : ℕ) → a ≤ g x → root_in p g a m x ≡ x
  stay zero x h = refl
  stay (suc m) x h = rw (le-ltb (g x) a h)

  bottom : (x : ℕ) → x ≤ 0 → a ≤ g x
  bottom x l = go (dec_le a (g x))
    where
      go : Dec (a ≤ g x) → a ≤ g x
      go (yes h) = h
      go (no h) = absurd (omega (arith, K.down x (omega arith)))

  root-enough : (n m x : ℕ) → x ≤ n → x ≤ m → root_in p g a n x ≡ root_in p g a m x
  root-enough zero m x l l' = sym (stay m x (bottom x l))
  root-enough (suc n) zero x l l' = stay (suc n) x (bottom x l')
  root-enough (suc n) (suc m) x l l' = go (root-enough n m (p x)) (dec_lt (g x) a)
    where
      go : (p x ≤ n → p x ≤ m → root_in p g a n (p x) ≡ root_in p g a m (p x)) → Dec (g x < a) → root_in p g a (suc n) x ≡ root_in p g a (suc m) x
      go f (yes h) = rw (lt-ltb (g x) a h) (f (omega (arith, K.down x (omega arith))) (omega (arith, K.down x (omega arith))))
      go f (no h) = rw (le-ltb (g x) a (omega arith))

  pub root-stop : (x : ℕ) → a ≤ g x → root p g a x ≡ x
  root-stop x h = stay x x h

  pub root-up : (x : ℕ) → g x < a → root p g a x ≡ root p g a (p x)
  root-up zero h = absurd (omega (arith, K.down 0 (omega arith)))
  root-up (suc x) h = rw (lt-ltb (g (suc x)) a h) (root-enough x (p (suc x)) (p (suc x)) (omega (arith, K.down (suc x) (omega arith))) (omega arith))

  -- To show Q of every tag, show it where no link is older than a, and carry it down one link.
  pub root-ind : (Q : ℕ → Type 0) → ((x : ℕ) → a ≤ g x → Q x) → ((x : ℕ) → g x < a → Q (p x) → Q x) → (x : ℕ) → Q x
  root-ind Q f h x = go x x (omega arith)
    where
      one : (x : ℕ) → (g x < a → Q (p x)) → Dec (g x < a) → Q x
      one x q (yes l) = h x l (q l)
      one x q (no l) = f x (omega arith)

      go : (n x : ℕ) → x ≤ n → Q x
      go zero x l = f x (bottom x l)
      go (suc n) x l = one x (λ l'. go n (p x) (omega (arith, K.down x (omega arith)))) (dec_lt (g x) a)

  -- Roots are labels.
  pub root-labels : Labels (root p g a)
  root-labels = record {
    low = root-ind (λ x. root p g a x ≤ x) (λ x h. rw (root-stop x h) (omega arith)) (λ x h q. rw (root-up x h) (omega (arith, K.down x (omega arith))));
    flat = root-ind (λ x. root p g a (root p g a x) ≡ root p g a x) (λ x h. rw (root-stop x h, root-stop x h)) (λ x h q. rw (root-up x h) q);
  }

-- A new link: earlier classes stay, and the last ones are joined.
module _ (p g : ℕ → ℕ) (top len : ℕ) (K : Links p g top len) (high : suc len ≤ top) (lo hi : ℕ) (less : lo < hi) (free : top ≤ g lo) (free' : top ≤ g hi) where
  link-hit : (y : ℕ) (f : ℕ → ℕ) → put hi y f hi ≡ y
  link-hit y f = put-hit hi y f

  link-miss : (y : ℕ) (f : ℕ → ℕ) (x : ℕ) → x ≢ hi → put hi y f x ≡ f x
  link-miss y f x h = put-miss hi y f x h

  pub link-links : Links (put hi lo p) (put hi len g) top (suc len)
  link-links = record {
    down = λ x. down x (ℕ_discrete x hi);
    rise = λ x. rise x (ℕ_discrete x hi) (ℕ_discrete (p x) hi);
    once = λ x y. once x y (ℕ_discrete x hi) (ℕ_discrete y hi);
    age = λ x. age x (ℕ_discrete x hi);
  }
    where
      old : (x : ℕ) → x ≢ hi → put hi len g x < suc len → (g x < len) ⊎ (top ≤ g x) → g x < len
      old x e h (inl l) = l
      old x e h (inr l) = absurd (omega (arith, link-miss len g x e))

      down : (x : ℕ) → Dec (x ≡ hi) → put hi len g x < suc len → put hi lo p x < x
      down x (yes e) h = rw (e, link-hit lo p) less
      down x (no e) h = rw (link-miss lo p x e) (K.down x (old x e h (K.age x)))

      rise : (x : ℕ) → Dec (x ≡ hi) → Dec (p x ≡ hi) → put hi len g x < suc len → put hi len g x < put hi len g (put hi lo p x)
      rise x (yes e) d h = rw (e, link-hit len g, link-hit lo p, link-miss len g lo (omega arith)) (omega arith)
      rise x (no e) (yes d) h = rw (link-miss len g x e, link-miss lo p x e, d, link-hit len g) (old x e h (K.age x))
      rise x (no e) (no d) h = rw (link-miss len g x e, link-miss lo p x e, link-miss len g (p x) d) (K.rise x (old x e h (K.age x)))

      fresh : (y : ℕ) → (g y < len) ⊎ (top ≤ g y) → len ≢ g y
      fresh y (inl l) q = omega arith
      fresh y (inr l) q = omega arith

      once : (x y : ℕ) → Dec (x ≡ hi) → Dec (y ≡ hi) → put hi len g x < suc len → put hi len g x ≡ put hi len g y → x ≡ y
      once x y (yes e) (yes d) h q = e ∙ sym d
      once x y (yes e) (no d) h q = absurd (fresh y (K.age y) (sym (link-hit len g) ∙ sym (ap (put hi len g) e) ∙ q ∙ link-miss len g y d))
      once x y (no e) (yes d) h q = absurd (fresh x (K.age x) (sym (link-hit len g) ∙ sym (ap (put hi len g) d) ∙ sym q ∙ link-miss len g x e))
      once x y (no e) (no d) h q = K.once x y (old x e h (K.age x)) (sym (link-miss len g x e) ∙ q ∙ link-miss len g y d)

      age : (x : ℕ) → Dec (x ≡ hi) → (put hi len g x < suc len) ⊎ (top ≤ put hi len g x)
      age x (yes e) = inl (rw (e, link-hit len g) (omega arith))
      age x (no e) = elim (K.age x) [ inl l ↦ inl (rw (link-miss len g x e) (omega arith)) | inr l ↦ inr (rw (link-miss len g x e) l) ]

  pub link-before : (a : ℕ) → a ≤ len → (x : ℕ) → root (put hi lo p) (put hi len g) a x ≡ root p g a x
  link-before a l = root-ind p g top len K a l (omega arith) (λ x. root (put hi lo p) (put hi len g) a x ≡ root p g a x)
      (λ x h. rw (root-stop p g top len K a l (omega arith) x h) (root-stop (put hi lo p) (put hi len g) top (suc len) link-links a (omega arith) high x (stop x h (ℕ_discrete x hi))))
      (λ x h q. rw (root-up p g top len K a l (omega arith) x h) (up x h q (ℕ_discrete x hi)))
    where
      stop : (x : ℕ) → a ≤ g x → Dec (x ≡ hi) → a ≤ put hi len g x
      stop x h (yes e) = rw (e, link-hit len g) l
      stop x h (no e) = rw (link-miss len g x e) h

      up : (x : ℕ) → g x < a → root (put hi lo p) (put hi len g) a (p x) ≡ root p g a (p x) → Dec (x ≡ hi) → root (put hi lo p) (put hi len g) a x ≡ root p g a (p x)
      up x h q (yes e) = absurd (omega (arith, ap g e))
      up x h q (no e) = root-up (put hi lo p) (put hi len g) top (suc len) link-links a (omega arith) high x (rw (link-miss len g x e) h) ∙ ap (root (put hi lo p) (put hi len g) a) (link-miss lo p x e) ∙ q

  pub link-after : (x : ℕ) → root (put hi lo p) (put hi len g) (suc len) x ≡ into lo hi (root p g len x)
  link-after = root-ind (put hi lo p) (put hi len g) top (suc len) link-links (suc len) (omega arith) high
      (λ x. root (put hi lo p) (put hi len g) (suc len) x ≡ into lo hi (root p g len x))
      (λ x h. root-stop (put hi lo p) (put hi len g) top (suc len) link-links (suc len) (omega arith) high x h ∙ stop x h (ℕ_discrete x hi))
      (λ x h q. root-up (put hi lo p) (put hi len g) top (suc len) link-links (suc len) (omega arith) high x h ∙ q ∙ up x h (ℕ_discrete x hi))
    where
      own : (x : ℕ) → len ≤ g x → root p g len x ≡ x
      own x h = root-stop p g top len K len (omega arith) (omega arith) x h

      stop : (x : ℕ) → suc len ≤ put hi len g x → Dec (x ≡ hi) → x ≡ into lo hi (root p g len x)
      stop x h (yes e) = absurd (omega (arith, ap (put hi len g) e, link-hit len g))
      stop x h (no e) = rw (own x (omega (arith, link-miss len g x e)), into-miss lo hi x e)

      up : (x : ℕ) → put hi len g x < suc len → Dec (x ≡ hi) → into lo hi (root p g len (put hi lo p x)) ≡ into lo hi (root p g len x)
      up x h (yes e) = rw (e, link-hit lo p, own lo (omega arith), own hi (omega arith), into-hit lo hi, into-miss lo hi lo (omega arith))
      up x h (no e) = rw (link-miss lo p x e, root-up p g top len K len (omega arith) (omega arith) x (old (K.age x)))
        where
          old : (g x < len) ⊎ (top ≤ g x) → g x < len
          old (inl l) = l
          old (inr l) = absurd (omega (arith, link-miss len g x e))

pub history-start : (e : ℕ → Join) (p g : ℕ → ℕ) (top : ℕ) → ((x : ℕ) → top ≤ g x) → History e 0 p g top
history-start e p g top h = record {
  links = record { down = λ x l. absurd (omega arith); rise = λ x l. absurd (omega arith); once = λ x y l. absurd (omega arith); age = λ x. inr (h x) };
  room = omega arith;
  then = λ a l. let q : a ≡ 0 = omega arith in rw q (agree_same (λ b k. absurd (omega arith)) (λ x. stay p g top 0 (record { down = λ y k. absurd (omega arith); rise = λ y k. absurd (omega arith); once = λ y z k. absurd (omega arith); age = λ y. inr (h y) }) 0 (omega arith) (omega arith) x x (omega arith)) (start-agree e));
}

pub history-link : (e : ℕ → Join) (n : ℕ) (p g : ℕ → ℕ) (top : ℕ) → History e n p g top → suc n ≤ top → (j : Join) (lo hi : ℕ) → lo < hi → top ≤ g lo → top ≤ g hi
    → Ends (root p g n) lo hi j → History (put n j e) (suc n) (put hi lo p) (put hi n g) top
history-link e n p g top H room j lo hi less free free' h = record {
  links = link-links p g top n H.links room lo hi less free free';
  room = room;
  then = λ a l. go a l (dec_le a n);
}
  where
    old : (a : ℕ) → a < n → e a ≡ put n j e a
    old a l = sym (put-miss n j e a (omega arith))

    go : (a : ℕ) → a ≤ suc n → Dec (a ≤ n) → Agree (put n j e) a (root (put hi lo p) (put hi n g) a)
    go a l (yes k) = agree_same (λ b i. old b (omega arith)) (link-before p g top n H.links room lo hi less free free' a k) (H.then a k)
    go a l (no k) =
        let q : a ≡ suc n = omega arith in
        rw q (agree_same (λ b i. refl) (link-after p g top n H.links room lo hi less free free')
        (relabel-agree (put n j e) n (root p g n) (agree_same old (λ x. refl) (H.then n (omega arith))) lo hi less
        (rw (put-hit n j e) h)))

-- Where join b is the first to bring s and t together, it is crossed, one way or the other.
pub newest : (e : ℕ → Join) (n : ℕ) (p g : ℕ → ℕ) (top : ℕ) → History e n p g top → (b : ℕ) → b < n → (s t : ℕ) → root p g (suc b) s ≡ root p g (suc b) t → root p g b s ≢ root p g b t
    → ((root p g b s ≡ root p g b (e b).u) × (root p g b (e b).v ≡ root p g b t)) ⊎ ((root p g b s ≡ root p g b (e b).v) × (root p g b (e b).u ≡ root p g b t))
newest e n p g top H b l s t q d = go ((H.then (suc b) (omega arith)).joins s t q)
  where
    A : Agree e b (root p g b)
    A = H.then b (omega arith)

    go : Joined e (suc b) s t → ((root p g b s ≡ root p g b (e b).u) × (root p g b (e b).v ≡ root p g b t)) ⊎ ((root p g b s ≡ root p g b (e b).v) × (root p g b (e b).u ≡ root p g b t))
    go (below i) = absurd (d (A.labels s t i))
    go (over o i i') = inl (A.labels s (e b).u i, A.labels (e b).v t i')
    go (back o i i') = inr (A.labels s (e b).v i, A.labels (e b).u t i')

-- Climbing: older links first.
module _ (p g : ℕ → ℕ) (top len : ℕ) (K : Links p g top len) (high : len ≤ top) where
  root-root : (c a : ℕ) → c ≤ a → a ≤ len → (s : ℕ) → root p g a (root p g c s) ≡ root p g a s
  root-root c a l k = root-ind p g top len K c (omega arith) high (λ s. root p g a (root p g c s) ≡ root p g a s)
      (λ s h. rw (root-stop p g top len K c (omega arith) high s h))
      (λ s h q. rw (root-up p g top len K c (omega arith) high s h, root-up p g top len K a k high s (omega arith)) q)

  -- The leader of s is x up to the age of the link of x, and then p x.
  pub climb-stay : (c a s x : ℕ) → root p g c s ≡ x → c ≤ a → a ≤ len → a ≤ g x → root p g a s ≡ x
  climb-stay c a s x e l k h = sym (root-root c a l k s) ∙ ap (root p g a) e ∙ root-stop p g top len K a k high x h

  pub climb-up : (c s x : ℕ) → root p g c s ≡ x → c ≤ g x → g x < len → root p g (suc (g x)) s ≡ p x
  climb-up c s x e l h = sym (root-root c (suc (g x)) (omega arith) h s) ∙ ap (root p g (suc (g x))) e ∙ root-up p g top len K (suc (g x)) h high x (omega arith)
      ∙ root-stop p g top len K (suc (g x)) h high (p x) (K.rise x h)
